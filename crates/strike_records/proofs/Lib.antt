-- Laws behind the proofs of the strike program's bytes.
pub mod Written
pub mod Fits
pub mod Decimal
