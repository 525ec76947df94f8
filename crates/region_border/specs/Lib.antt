-- A region as a C function: what it returns, and what it leaves. Definitions only.
pub mod Regions
