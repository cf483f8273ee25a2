pub mod Media
