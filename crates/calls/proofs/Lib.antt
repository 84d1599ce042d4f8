-- The laws of this crate.
pub mod Places
pub mod AttributePlaces
pub mod Halves
pub mod CallLaws
pub mod Verdicts
pub mod NumberLaws
pub mod Unique
