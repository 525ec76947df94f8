-- The nearest origin: document 01, "Origins and frame", which points to the Rust's origin.rs. Definitions only.
pub mod Nearest
pub mod LowestNearest
pub mod Calls
