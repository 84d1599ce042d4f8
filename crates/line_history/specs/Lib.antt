-- The definitions of this crate, in the order in which to read them.
pub mod Calls
pub mod Worked
