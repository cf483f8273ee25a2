pub mod Answers
pub mod Endings
pub mod Faults
pub mod Lines
pub mod Parts
pub mod Runs
pub mod Told
