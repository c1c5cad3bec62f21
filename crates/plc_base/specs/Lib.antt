pub mod Addresses
pub mod Least
pub mod Numbers
pub mod Trace
