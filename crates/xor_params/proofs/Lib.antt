pub mod TableLemmas
pub mod Readings
pub mod Refusals
pub mod ListFaults
