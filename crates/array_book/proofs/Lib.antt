mod SlotLaws
mod MissingUnits
mod StepLaws
mod KeptCommands
mod OpenPlaces
pub mod OpenLaws
pub mod OpenOnes
mod FirstOpen
mod Counts
mod Decided
pub mod Results
pub mod LeastOpen
pub mod SoundTasks
pub mod Opened
mod Findings
pub mod EndedSums
pub mod IndexSteps
pub mod IndexReads
pub mod Scans
pub mod Beginnings
pub mod KeptBooks
