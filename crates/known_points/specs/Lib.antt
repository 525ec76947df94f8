-- Document 01, "Known points", the limit of Paper 7 and the rounds of Paper 2: what is claimed. Definitions only.
pub mod Marked
pub mod Outside
pub mod Rounds
