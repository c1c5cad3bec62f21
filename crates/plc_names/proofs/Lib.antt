pub mod InitViews
pub mod Samples
pub mod WorkedTwice
pub mod WorkedUses
