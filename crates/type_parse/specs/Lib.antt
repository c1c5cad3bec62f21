pub mod Depth
pub mod Initials
pub mod Inner
pub mod Names
pub mod Nests
pub mod Types
