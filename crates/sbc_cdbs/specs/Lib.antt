pub mod Cdbs
pub mod Faults
pub mod Reading
pub mod Kinds
