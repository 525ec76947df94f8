-- Paper 13, "The as-run sheet": a line, the page, the call, and what follows. Definitions only.
pub mod Line
pub mod Letters
pub mod Page
pub mod Sheet
pub mod Claims
