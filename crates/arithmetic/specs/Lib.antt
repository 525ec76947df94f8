-- The arithmetic that every definition is written over, and the square root with its rounds. Definitions only.
pub mod Numbers
pub mod Sqrt
pub mod Rounds
pub mod Arith
pub mod Nearest
