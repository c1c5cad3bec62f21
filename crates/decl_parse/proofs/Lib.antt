pub mod ConfigurationLaws
mod ConfigurationPhrases
pub mod Counting
pub mod Front
mod Placing
pub mod SampleTokens
pub mod SectionLaws
mod SectionPhrases
pub mod Shapes
pub mod SourceLaws
mod SourcePhrases
pub mod UnitLaws
mod UnitPhrases
