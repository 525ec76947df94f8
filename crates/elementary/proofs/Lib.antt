-- Laws behind the proofs of the functions.
pub mod Fraction
pub mod Turn
pub mod Quarters
pub mod Angles
pub mod Sizes
pub mod Inside
pub mod Values
pub mod SignBit
pub mod Digits
pub mod Lead
pub mod Smaller
pub mod RemainderPlaces
pub mod RemainderValues
