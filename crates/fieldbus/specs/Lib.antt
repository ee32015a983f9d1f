-- The line between a master and a cabinet.
--   AlStates   AL states and errors with their numbers, AL status, and the AL request
--   Watches    the delay, the silence, and when the watch runs out
--   Frames     the layouts, and what a frame carries for an axis
pub mod AlStates
pub mod Watches
pub mod Frames
