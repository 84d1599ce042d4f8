-- The laws of this crate.
pub mod BitLaws
pub mod BodyLaws
pub mod ContainLaws
pub mod Examples
pub mod MaskLaws
pub mod PrefixLaws
pub mod WordLaws
