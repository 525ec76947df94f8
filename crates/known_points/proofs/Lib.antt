-- The marked points, the limit of Paper 7, the rounds of Paper 2, and samples of the elementary steps.
pub mod Marked
pub mod Outside
pub mod Rounds
pub mod Samples
