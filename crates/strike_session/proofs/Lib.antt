-- Laws behind the proofs of the strike program's session.
pub mod Feeding
pub mod Cutting
pub mod Results
pub mod Replies
pub mod Arrived
pub mod Counted
pub mod Passed
pub mod Whole
