pub mod Senses
pub mod Faults
pub mod Reading
pub mod Illegal
