-- The laws of this crate.
pub mod CutLaws
pub mod FormLaws
pub mod ReadLaws
pub mod SaidLaws
