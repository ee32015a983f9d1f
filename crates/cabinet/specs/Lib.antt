-- The gate cabinet.
--   Cabinets   how a cabinet stands, its making, and one step of each axis
--   Events     what a call brings an axis
--   Requests   the AL request
--   Cycles     the cycle, its refusals and the return image
--   Shows      what a cabinet shows of an axis
pub mod Cabinets
pub mod Events
pub mod Requests
pub mod Cycles
pub mod Shows
