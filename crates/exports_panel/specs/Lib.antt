-- A step of the caption panel as C functions. Definitions only.
pub mod Panel
