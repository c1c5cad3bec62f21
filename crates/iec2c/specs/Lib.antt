-- What the program adds to what it stands on.
pub mod Console
pub mod Reading
