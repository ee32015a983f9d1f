-- A scenario followed line by line.
--   Sides      one cabinet that follows a scenario, and the lines that show its calls
--   Closings   the lines that close a log, byte by byte
--   Stages     what a line makes of the bench, of one cabinet and of two, and of the log
pub mod Sides
pub mod Closings
pub mod Stages
