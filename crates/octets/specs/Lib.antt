-- The definitions of this crate, in the order in which to read them.
pub mod Bit
pub mod Number
pub mod Order
pub mod Store
pub mod Walk
pub mod Test
