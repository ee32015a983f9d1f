-- What a cylinder means.
--   Cylinders   the cylinder by its scale
--   Meanings    the same as the code has it
pub mod Cylinders
pub mod Meanings
pub mod CylinderLaws
