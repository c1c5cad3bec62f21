pub mod FuelLaws
pub mod MeaningViews
pub mod RuleViews
pub mod Straight
mod WorkedValues
mod WorkedLoops
mod WorkedStructures
mod WorkedTrees
mod WorkedGood
mod WorkedNames
mod WorkedRules
mod WorkedTokens
mod WorkedJumps
mod WorkedPaths
mod WorkedForms
