pub mod PageLemmas
pub mod ListLemmas
pub mod ListFaults
