-- A region on one face (document 02, Paper 4): the call, what it uses of a set, and its parts on plain values. Definitions only.
pub mod Region
pub mod Uses
pub mod Parts
