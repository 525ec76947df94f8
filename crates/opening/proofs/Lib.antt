-- Paper 9: opening cannot fail. What is claimed, proved.
pub mod Refusals
pub mod Fresh
pub mod Lists
pub mod Theorem
pub mod Consequences
pub mod Strike
