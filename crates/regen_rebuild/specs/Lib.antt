pub mod Gatherings
