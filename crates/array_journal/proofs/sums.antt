pub mod LayoutLaws
pub mod XorSums
pub mod CoveredRows
pub mod TargetSums
pub mod RowSums
