pub mod Bytes
pub mod Elems
mod Examples
pub mod LeastLaws
pub mod Same
pub mod Wrapping
