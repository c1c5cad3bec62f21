pub mod Complaints
pub mod Decision
pub mod Headline
pub mod Lines
pub mod Plans
pub mod Run
pub mod Status
pub mod Words
