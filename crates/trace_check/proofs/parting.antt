pub mod PassedLines
pub mod ScriptFound
pub mod ReportParted
pub mod PrintedParted
