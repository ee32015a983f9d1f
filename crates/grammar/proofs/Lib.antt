pub mod NextWord
pub mod ReadBytes
