-- Laws behind the proofs of the functions.
pub mod LeastOf
pub mod Axes
pub mod AxisSines
pub mod Shared
pub mod LowestNearest
