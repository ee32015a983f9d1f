-- What the bench part makes of a bank.
--   Operations   an operation on the drive of a number
--   Texts        the lines of the log, byte by byte
--   Benches      the bank on the bench, and what a line makes of it
pub mod Operations
pub mod Texts
pub mod Benches
