pub mod Frames
pub mod Heads
pub mod Splits
pub mod State
pub mod Laws
