-- The laws of this crate.
pub mod TurnLaws
pub mod BodyLaws
pub mod KeyLaws
pub mod CompareLaws
