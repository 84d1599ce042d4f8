-- The definitions of this crate, in the order in which to read them.
pub mod Route
pub mod Destination
pub mod Feasible
pub mod Pass
