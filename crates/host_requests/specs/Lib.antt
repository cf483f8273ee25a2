pub mod Settings
pub mod Requests
pub mod Begins
pub mod Cdbs
pub mod Forms
pub mod Pieces
pub mod Tasks
