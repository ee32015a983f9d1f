-- What numbers and byte strings of a scenario are.
--   Digits     the value of a digit
--   Numerals   numbers
--   ByteTexts  byte strings
-- and what only the code speaks of.
--   Kept       what it keeps of a value
pub mod Digits
pub mod Numerals
pub mod ByteTexts
pub mod Kept
