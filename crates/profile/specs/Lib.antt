-- The drive profile of CiA 402.
--   Commands   the commands, and how a controlword gives one
--   States     the states, and their patterns in the statusword
--   Status     the statusword, and an axis's row of the return image
pub mod Commands
pub mod States
pub mod Status
