-- What a line and its words are.
pub mod Lines
