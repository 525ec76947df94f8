-- Laws on the table file.
pub mod Places
pub mod Outcome
pub mod RoundTrip
