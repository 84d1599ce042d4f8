-- The laws of this crate.
pub mod GatherLaws
pub mod CutLaws
pub mod ServeLaws
pub mod InputLaws
pub mod Unique
