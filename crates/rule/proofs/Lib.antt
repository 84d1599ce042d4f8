-- The laws of this crate.
pub mod FamilyLaws
pub mod ShapeLaws
pub mod OperatorLaws
pub mod Passing
pub mod Near
pub mod ComponentLaws
pub mod ValueLaws
pub mod ComponentsLaws
pub mod ReadingLaws
pub mod RefusalsLaws
