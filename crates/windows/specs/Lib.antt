-- What windows mean.
--   Guards    a drive below something that may keep targets out
--   Windows   limits around any drive
pub mod Guards
pub mod Windows
pub mod WindowLaws
