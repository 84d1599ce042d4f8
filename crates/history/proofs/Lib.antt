-- The laws of this crate.
pub mod HistoryLaws
pub mod AgreeLaws
pub mod Happens
pub mod AttributeLaws
pub mod AttributesHappen
pub mod OperatorTheorems
pub mod Worked
pub mod Scene4
pub mod Scene6
