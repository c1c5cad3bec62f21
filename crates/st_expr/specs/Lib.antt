pub mod Answered
pub mod Depth
pub mod Expressions
pub mod Integers
pub mod Nested
pub mod Nests
pub mod Parsed
