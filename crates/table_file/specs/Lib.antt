-- Paper 10's table file. Definitions only.
pub mod TableFile
pub mod RoundTrip
