-- The definitions of this crate, in the order in which to read them.
pub mod Word
pub mod Buffers
pub mod Promise
