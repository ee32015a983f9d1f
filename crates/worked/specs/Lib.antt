-- Worked cases of the rules.
--   Cases   the one statement that holds them all
pub mod Cases
