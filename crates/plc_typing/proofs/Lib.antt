mod Answered
pub mod ConstantViews
pub mod Declaring
mod Examples
pub mod Faults
pub mod Initial
mod Joining
pub mod Nodes
pub mod SoleSources
mod SourceExamples
pub mod StandardNames
mod Standing
pub mod Statements
pub mod Tests
pub mod TypedBodies
pub mod TypedHeights
pub mod TypingViews
pub mod UseViews
pub mod Wholes
