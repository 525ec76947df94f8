-- Coordinate systems and the changes between them: document 01, which points to the Rust's coordinate_transforms.rs, authalic.rs,
-- gnomonic.rs and vector.rs. Definitions only.
pub mod Constants
pub mod Vector
pub mod Authalic
pub mod Series
pub mod Gnomonic
pub mod CoordinateTransforms
pub mod Conversions
pub mod Range
