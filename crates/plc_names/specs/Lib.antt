pub mod Declarations
pub mod Items
pub mod Lookup
pub mod Needs
pub mod Types
pub mod Rules
pub mod Symbols
pub mod Uses
