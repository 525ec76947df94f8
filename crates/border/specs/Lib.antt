-- A call as a C function: what it returns, and what it leaves in the numbers lent for its answer. Definitions only.
pub mod Returns
pub mod Calls
pub mod Tables
