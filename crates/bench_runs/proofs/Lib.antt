pub mod Grown
pub mod Kept
pub mod Named
pub mod Carried
pub mod Many
pub mod BenchRows
pub mod Done
