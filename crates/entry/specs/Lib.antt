-- The definitions of this crate, in the order in which to read them.
pub mod Entry
pub mod Record
