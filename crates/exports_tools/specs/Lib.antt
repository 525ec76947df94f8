-- The caption box, a window of strikes and the as-run sheet as C functions: what they return, and what they leave in what is lent to
-- them. Definitions only.
pub mod Boxes
pub mod Windows
pub mod Sheets
