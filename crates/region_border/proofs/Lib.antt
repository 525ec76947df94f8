-- What the proofs of this crate and the C functions' share.
pub mod Told
