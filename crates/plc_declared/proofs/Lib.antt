pub mod Adding
pub mod Ordering
