pub mod Below
pub mod Cases
pub mod DepthLaws
pub mod Fronts
pub mod Heights
pub mod Lacking
pub mod SampleTokens
pub mod Stands
pub mod StatementLaws
mod StatementPhrases
