-- The laws of this crate.
pub mod HoldLaws
pub mod Worked
