mod Accepted
mod Commands
pub mod DecisionLaws
mod Examples
mod FaultLemmas
mod Filling
mod HeadlineLemmas
mod Loops
mod Meanings
mod Passes
mod Rooms
mod RunLemmas
mod Shaped
pub mod SourceWords
mod Variables
mod WorkedSources
