-- The frame and the lookup of a vertex: document 01, "Origins and frame", which points to the Rust's crs.rs. Definitions only.
pub mod Candidates
pub mod Frame
