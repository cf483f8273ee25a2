pub mod CdbTests
pub mod AimTasks
pub mod AimPieces
