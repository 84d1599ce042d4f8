-- The definitions of this crate, in the order in which to read them.
pub mod Plain
pub mod PlainComponent
pub mod Writing
