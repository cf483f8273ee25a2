pub mod TriedWrites
pub mod TriedLosses
pub mod TriedBars
pub mod WrongBars
pub mod ReadbackRuns
pub mod TriedPasts
pub mod ExampleRuns
