pub mod Statuses
pub mod Notes
pub mod Stops
pub mod Words
pub mod Endings
