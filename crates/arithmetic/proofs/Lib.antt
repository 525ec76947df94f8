-- Laws about powers of two, the values of a format, the operations on them and the definitions of `specs/`, for every crate to cite.
pub mod WholeNumbers
pub mod Powers
pub mod Units
pub mod Compared
pub mod Rounding
pub mod Remainder
pub mod Product
pub mod Root
pub mod Count
pub mod Width
pub mod Ieee754
pub mod Rounds
pub mod SqrtOrder
pub mod Quick
pub mod Bounds
pub mod Bounded
pub mod Order
