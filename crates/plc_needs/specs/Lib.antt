pub mod Own
pub mod Parts
pub mod Row
pub mod Rows
