pub mod KnownBlocks
pub mod DataLaw
pub mod ReadsRight
