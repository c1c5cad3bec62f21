pub mod Depth
pub mod Nested
pub mod Nests
pub mod Statements
