pub mod Configurations
pub mod Parsed
pub mod Places
pub mod Sections
pub mod Shapes
pub mod Sources
pub mod Units
