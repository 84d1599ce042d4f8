-- The definitions of this crate, in the order in which to read them.
pub mod Serve
pub mod Gather
pub mod Input
pub mod Blocks
pub mod Promise
