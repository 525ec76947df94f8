-- Refusals and their numbers, the checks of one number (document 01, "Calls and their numbers"), and its bytes. Definitions only.
pub mod Given
pub mod Answer
pub mod Number
pub mod BigEndian
