-- The definitions of this crate, in the order in which to read them.
pub mod Input
pub mod Judging
pub mod Request
