pub mod NameLemmas
pub mod SpaceLemmas
pub mod ListLemmas
pub mod OwnerLemmas
pub mod OwnedLemmas
pub mod TakenLemmas
pub mod Repeating
