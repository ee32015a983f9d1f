-- What the cabinet part of a scenario says.
--   Calls   what a line says
--   Heard   the directive that the code took from a line
pub mod Calls
pub mod Heard
