pub mod FuelLaws
pub mod HeightViews
pub mod LoopSamples
pub mod RunSamples
pub mod Sample
pub mod StatementViews
pub mod TreeViews
