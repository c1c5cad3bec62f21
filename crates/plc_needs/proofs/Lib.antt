pub mod Adding
pub mod Entries
pub mod Growing
pub mod Joining
pub mod Owners
pub mod Views
pub mod Numbered
