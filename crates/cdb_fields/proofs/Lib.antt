pub mod Bits
pub mod Cells
pub mod Masks
pub mod Shared
