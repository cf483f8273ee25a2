pub mod ParameterLists
pub mod Contents
pub mod ListFaults
pub mod Tables
