-- Laws of lists.
pub mod Lengths
pub mod Laws
