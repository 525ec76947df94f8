-- The calls on a set: document 01, "Calls and their numbers" and "Triangles and calls". Definitions only.
pub mod Place
pub mod Work
pub mod Projection
pub mod Calls
