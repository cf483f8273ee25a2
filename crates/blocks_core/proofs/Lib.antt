pub mod XorLaws
pub mod BlockLists
pub mod Lanes
