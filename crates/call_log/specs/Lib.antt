-- The lines of a call to one cabinet or to two.
--   CallTexts   the lines of a call, byte by byte
pub mod CallTexts
