-- The laws of this crate.
pub mod Cases
pub mod HistoryLaws
pub mod MapLaws
pub mod MemberLaws
pub mod SplitLaws
pub mod TableLaws
