-- The definitions of this crate, in the order in which to read them.
pub mod Spelling
pub mod Hex
pub mod Decimal
pub mod Field
pub mod Print
