pub mod Circles
pub mod Gathered
pub mod Needs
pub mod Order
pub mod Reversed
pub mod Walk
