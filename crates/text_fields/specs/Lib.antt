pub mod Spelling
pub mod Reading
pub mod Digits
pub mod Laws
