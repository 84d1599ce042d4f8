-- The definitions of this crate, in the order in which to read them.
pub mod Walk
pub mod Sound
pub mod Follow
pub mod Place
pub mod Change
