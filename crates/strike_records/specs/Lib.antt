-- Document 01, "The strike program": its bytes. Definitions only.
pub mod Line
pub mod Writes
pub mod Record
pub mod Reply
