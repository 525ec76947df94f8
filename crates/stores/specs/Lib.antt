-- The slots of a set's stores, and the triangles that a call takes: document 01, "Calls and their numbers" and "Triangles and calls". Definitions only.
pub mod Slots
pub mod Used
pub mod Show
pub mod Triangles
pub mod Taken
