pub mod Spelled
pub mod Again
pub mod Answers
pub mod Offending
pub mod Decoded
