-- Laws of a step as a C function.
pub mod Panel
