-- The definitions of this crate, in the order in which to read them.
pub mod History
pub mod Attributes
pub mod Worked
pub mod Scene4
pub mod Scene6
