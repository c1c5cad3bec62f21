pub mod CNames
pub mod Emitted
pub mod Expressions
pub mod Keeps
pub mod Like
pub mod Single
pub mod SourceNames
pub mod Statements
