pub mod Keys
pub mod Rising
pub mod Names
pub mod Stamps
pub mod Disks
pub mod ActsDone
pub mod CommandActs
pub mod Indexes
