-- What a bank means.
--   Lists   a bank as the list of its drives' meanings, and operations by number
pub mod Lists
