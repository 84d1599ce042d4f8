-- The laws of this crate.
pub mod HistoryLaws
pub mod Happens
