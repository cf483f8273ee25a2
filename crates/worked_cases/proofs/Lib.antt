pub mod Answering
pub mod Endings
pub mod LineLaws
pub mod Tellings
