-- The laws of this crate.
pub mod ReadLaws
pub mod StepLaws
pub mod LoopLaws
pub mod SinglesLaws
pub mod ApplyLaws
