-- The frame's rows and the 240 sphere triangles, by computation.
pub mod Split
pub mod Frame
pub mod Every
pub mod Seek
pub mod Triangles
