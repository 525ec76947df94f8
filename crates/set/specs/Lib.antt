-- The set, open and the checks of the calls: document 01, "Calls and their numbers". Definitions only.
pub mod Sizes
pub mod Set
pub mod Outcome
pub mod Lent
pub mod Open
pub mod Checks
