-- The definitions of this crate, in the order in which to read them.
pub mod Singles
pub mod Checks
pub mod Apply
pub mod Promise
pub mod Steps
