pub mod Firsts
pub mod Lists
pub mod Repeated
pub mod Scopes
