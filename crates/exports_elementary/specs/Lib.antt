-- What the C functions hand back. Definitions only.
pub mod Value
