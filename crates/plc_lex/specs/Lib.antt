pub mod Comments
pub mod Lexes
pub mod Names
pub mod Tokens
