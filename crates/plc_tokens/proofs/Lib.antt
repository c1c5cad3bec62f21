pub mod Classes
pub mod Cut
pub mod Ends
pub mod InPlace
pub mod Known
pub mod Lacks
pub mod Ranks
pub mod Table
