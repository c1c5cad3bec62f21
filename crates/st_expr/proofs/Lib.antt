pub mod Below
pub mod DepthLaws
pub mod ExpressionLaws
mod ExpressionPhrases
mod OperatorPhrases
pub mod Fronts
pub mod Heights
pub mod IntegerLaws
pub mod Lacking
pub mod Levels
pub mod Reading
pub mod SampleTokens
pub mod Stands
