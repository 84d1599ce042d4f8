-- The laws of this crate.
pub mod WalkLaws
pub mod SpliceLaws
pub mod EntryLaws
pub mod FindLaws
pub mod TestLaws
pub mod SoundLaws
pub mod CaseLaws
pub mod ChangeLaws
pub mod CallLaws
pub mod LeaveLaws
pub mod AgainLaws
