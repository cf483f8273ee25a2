mod Knowing
mod Following
mod Befallen
mod Moved
mod Deltas
mod Answered
mod Resumed
mod OwnRows
mod Gathered
mod PlanFits
pub mod OwnEntries
pub mod MadeActs
mod AskedActs
mod AskedCloses
pub mod Asked
pub mod GoesOn
pub mod Left
pub mod Undisturbed
pub mod Told
pub mod ToldCloses
mod SentCommands
pub mod Shapes
pub mod ActsFollow
pub mod BookFollows
pub mod PlansBegin
mod Unanswered
pub mod Served
