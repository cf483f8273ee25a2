pub mod Counting
pub mod Replied
pub mod OneFinding
pub mod ItemSteps
pub mod StreamSteps
pub mod KnownStreams
pub mod RunSteps
pub mod Endings
