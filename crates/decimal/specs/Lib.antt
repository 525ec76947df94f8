-- A number in decimal, as text, in columns, and the bytes that part what stands on a line. Definitions only.
pub mod Bytes
pub mod Decimal
pub mod Columns
