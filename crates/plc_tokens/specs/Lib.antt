pub mod Sets
pub mod Sorts
pub mod Tokens
