-- The laws of this crate.
pub mod OpeningLaws
pub mod LookupLaws
pub mod MergedLaws
pub mod LeavingLaws
