-- What holds of a caption box after every list of points.
pub mod Grows
pub mod Order
pub mod Theorem
pub mod Consequences
