pub mod Tests
pub mod Openings
pub mod FrameHeads
pub mod Fronts
pub mod Streams
pub mod Feeds
pub mod Cuts
pub mod Beginnings
