-- Paper 5, "Three hours of strikes": a window, an addition to it, what is kept, and the theorem over every list of additions. Definitions only.
pub mod Ring
pub mod Window
pub mod Addition
pub mod Kept
pub mod EveryList
pub mod Consequences
