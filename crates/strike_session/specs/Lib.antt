-- Document 01, "The strike program". Definitions only.
pub mod Session
pub mod Pieces
pub mod Results
pub mod Replies
pub mod Steps
