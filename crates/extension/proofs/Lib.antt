-- The laws of this crate.
pub mod ExtensionLaws
pub mod LaidOut
pub mod FragmentLaws
