-- The laws of this crate.
pub mod Examples
pub mod Examples6
pub mod Theorems
pub mod Theorems6
pub mod HeaderLaws
pub mod TransportLaws
pub mod PacketLaws
pub mod Options
pub mod LaidOut
pub mod LaidOut6
