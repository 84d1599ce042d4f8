-- The laws of this crate.
pub mod PrintLaws
pub mod ListLaws
