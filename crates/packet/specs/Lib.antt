-- The definitions of this crate, in the order in which to read them.
pub mod Header
pub mod Header6
pub mod Transport
pub mod Packet
pub mod Later
