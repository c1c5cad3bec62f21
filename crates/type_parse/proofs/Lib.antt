pub mod Below
pub mod DepthLaws
pub mod InitialLaws
mod InitialPhrases
pub mod Lacking
mod Nodes
pub mod SampleTokens
pub mod Stands
pub mod TypeLaws
mod TypePhrases
