-- What a row of drives means.
--   Rows   any number of drives as a bank
pub mod Rows
pub mod InRow
