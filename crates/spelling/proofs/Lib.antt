-- The laws of this crate.
pub mod PlainLaws
pub mod ClearedLaws
pub mod SpellingLaws
pub mod PassingLaws
pub mod PlainWalkLaws
pub mod FillLaws
pub mod WritingLaws
pub mod RoundTripLaws
pub mod Examples
