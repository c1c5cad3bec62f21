pub mod Answering
mod Examples
pub mod Gathering
pub mod Paths
pub mod Reversing
pub mod Walked
pub mod Walks
