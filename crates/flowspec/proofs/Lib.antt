-- The laws of this crate.
pub mod ToldLaws
pub mod WriteLaws
pub mod FeasibilityLaws
pub mod TableLaws
