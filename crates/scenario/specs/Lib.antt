-- What a scenario says.
--   Makes        the drive that a `drive` line declares
--   Directives   what a line says
--   Described    the drive that the code took from a line
--   Heard        the directive that the code took from a line
pub mod Makes
pub mod Directives
pub mod Described
pub mod Heard
