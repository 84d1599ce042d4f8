-- The laws of this crate.
pub mod Cases
pub mod Facts
pub mod NumberLaws
pub mod OrderLaws
pub mod StoreLaws
pub mod TestLaws
pub mod WalkLaws
