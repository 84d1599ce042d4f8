-- The definitions of this crate, in the order in which to read them.
pub mod Precedence
pub mod Compare
pub mod Key
pub mod Turn
