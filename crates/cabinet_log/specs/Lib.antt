-- The cabinet part of the log.
--   AnswerTexts    what a call answers, byte by byte
--   CabinetTexts   how a cabinet stands, byte by byte
pub mod AnswerTexts
pub mod CabinetTexts
