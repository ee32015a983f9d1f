mod Changes
mod Cycles
