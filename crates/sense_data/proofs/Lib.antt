pub mod Values
pub mod Spelled
pub mod Again
pub mod Answers
