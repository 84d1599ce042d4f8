-- The definitions of this crate, in the order in which to read them.
pub mod Line
pub mod Form
