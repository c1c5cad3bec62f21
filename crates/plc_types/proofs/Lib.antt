pub mod FoundAlong
pub mod Linked
pub mod Stands
