-- What C functions return and leave: a table file, and a slot that is shown. Definitions only.
pub mod Files
pub mod Slots
