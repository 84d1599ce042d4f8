-- The definitions of this crate, in the order in which to read them.
pub mod Feasibility
pub mod Announce
pub mod Told
pub mod Look
pub mod Checks
pub mod Promise
