-- What the log shows of a drive.
--   Added        what a call adds to a text
--   DriveTexts   a drive and its parts, byte by byte
pub mod Added
pub mod DriveTexts
