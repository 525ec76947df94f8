-- Document 01, "Elementary steps": what the library functions mean, and what a pattern says. Definitions only.
pub mod Constants
pub mod Whole
pub mod Sine
pub mod Arctangent
pub mod Values
pub mod Signs
pub mod Parts
