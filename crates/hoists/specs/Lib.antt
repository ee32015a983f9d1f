-- What a hoist means.
--   Inverters   the inverter bits and the troubles they name
--   Hoists      the hoist by its numbers
--   Meanings    the same as the code has it
pub mod Inverters
pub mod Hoists
pub mod Meanings
pub mod HoistLaws
