-- The definitions of this crate, in the order in which to read them.
pub mod Given
pub mod Limit
pub mod Actions
pub mod Smallest
pub mod Merging
pub mod Possible
pub mod Reading
