-- What a drive means whose make is chosen at run time.
--   Makes   the make that was chosen
pub mod Makes
