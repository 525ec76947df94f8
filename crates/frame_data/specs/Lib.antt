-- The frame of the built-in table as data, and what is claimed of it. Definitions only.
pub mod Rows
pub mod Claims
