-- A list of positions as C functions: what it returns, and what it leaves. Definitions only.
pub mod Lists
