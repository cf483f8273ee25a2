pub mod Held
pub mod Holding
pub mod Runs
pub mod Slots
pub mod Steps
