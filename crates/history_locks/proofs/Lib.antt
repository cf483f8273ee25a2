pub mod Growing
pub mod Starting
pub mod Made
pub mod Coming
pub mod TargetActs
pub mod BookActs
pub mod Looking
