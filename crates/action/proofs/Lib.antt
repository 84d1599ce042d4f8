-- The laws of this crate.
pub mod GivenLaws
pub mod LimitLaws
pub mod SmallestLaws
pub mod ReadingLaws
pub mod Communities
pub mod PossibleLaws
pub mod MergingLaws
pub mod Written
pub mod Examples
