-- The laws of this crate.
pub mod HeadLaws
pub mod RulesLaws
pub mod CountLaws
pub mod RefusalsLaws
