-- The axes of a cabinet.
--   Moves   the moves of an axis, and what entering a state does to its drive
--   Steps   what a call brings an axis, and what the axis and its drive are afterwards
--   Seen    what is seen of an axis: the statusword and the row of the return image
pub mod Moves
pub mod Steps
pub mod Seen
