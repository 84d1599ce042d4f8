-- The definitions of this crate, in the order in which to read them.
pub mod Head
pub mod Rules
pub mod Refusals
pub mod Count
