-- The caption box (document 02, Paper 3): a box, a point taken in, and what holds after every list of points. Definitions only.
pub mod Sides
pub mod EveryList
