pub mod Answers
pub mod BenchRuns
pub mod Ready
