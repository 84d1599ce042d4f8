-- The laws of this crate.
pub mod Examples
pub mod OperatorTable
pub mod Theorems
pub mod OperatorLaws
pub mod PairListLaws
pub mod ListLaws
pub mod MatchLaws
pub mod PatternLaws
pub mod PlainLaws
