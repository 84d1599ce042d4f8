-- The laws of this crate.
pub mod JudgingLaws
pub mod RequestLaws
