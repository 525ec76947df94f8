pub mod Made
pub mod Left
pub mod Performed
