-- What any number of windows over a drive mean.
--   Enclosures   a drive under any number of windows
--   Enclosed     such a drive is so many windows one over the other, and is lawful
--   Through      what is done to it and asked of it goes through all of them
pub mod Enclosures
pub mod Enclosed
pub mod Through
