pub mod Fronts
pub mod Cuts
pub mod Digits
pub mod NumeralLaws
pub mod HexLaws
