-- What drives mean.
--   Refusals   causes with their numbers, and a refusal as one number
--   Holdings   what a drive holds, and what each operation makes of it
--   Modes      the modes of operation
--   Numbers    numbers out of a field record, and ranges
--   Meaning    a drive's whole meaning as one value, and what every make owes
pub mod Refusals
pub mod Holdings
pub mod Modes
pub mod Numbers
pub mod Meaning
