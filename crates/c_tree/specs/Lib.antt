pub mod CTokens
pub mod Layout
pub mod Printing
pub mod Spelled
pub mod Spelling
pub mod WellSpelled
