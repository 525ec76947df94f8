-- Laws behind the proofs of the functions.
pub mod Runs
pub mod Within
pub mod ReadBack
pub mod Written
pub mod ShowFits
pub mod TakenWithin
pub mod CornerAngles
pub mod Uses
