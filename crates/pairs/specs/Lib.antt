-- What two banks side by side mean.
--   Pairs   the drives of both, and where a number is found
pub mod Pairs
pub mod FoundLemmas
