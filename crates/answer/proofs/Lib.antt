-- Laws on what a call gives, for the proofs of every call, on the bits of a NaN, on finite values and on bytes.
pub mod Given
pub mod NanBits
pub mod Finite
pub mod Bytes
