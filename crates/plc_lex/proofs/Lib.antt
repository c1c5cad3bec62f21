pub mod CommentsLemmas
pub mod Examples
pub mod Laws
pub mod Names
pub mod TokensLemmas
