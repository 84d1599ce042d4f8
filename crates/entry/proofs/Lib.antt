-- The laws of this crate.
pub mod BodyLaws
pub mod ValueLaws
pub mod RecordLaws
pub mod CodecLaws
