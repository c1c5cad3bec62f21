pub mod Calls
pub mod Kept
pub mod MemoryConsole
pub mod MemoryFiles
pub mod Outside
pub mod Spans
