-- The face figure and the triangle that a point belongs to: document 01, "Face figure" and "Triangles and calls", which point to the
-- Rust's constants.rs, core/pentagon.rs, geometry/pentagon.rs, tiling.rs and the first half of dodecahedron.rs. Definitions only.
pub mod Pentagon
pub mod Tiling
pub mod FaceTriangles
pub mod Index
pub mod Cut
