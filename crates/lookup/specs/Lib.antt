-- The definitions of this crate, in the order in which to read them.
pub mod Opening
pub mod Lookup
pub mod Leaving
