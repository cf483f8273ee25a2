pub mod PlainActs
pub mod PlainBuses
