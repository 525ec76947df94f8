-- Paper 9: opening cannot fail. What is claimed. Definitions only.
pub mod Opening
pub mod Refusals
pub mod Strike
