pub mod SpellingViews
pub mod WellSpelledViews
pub mod CuttingLaws
pub mod LayoutLaws
pub mod Names
pub mod PartTexts
pub mod GrowingText
mod WorkedUnit
