-- The twelve origins, and rotations by quaternions: document 01, "Origins and frame", which points to the Rust's constants.rs,
-- dodecahedron_quaternions.rs, utils.rs and origin.rs. Definitions only.
pub mod Constants
pub mod Quaternion
pub mod Origins
pub mod Table
