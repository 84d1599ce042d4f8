-- The laws of this crate.
pub mod HexLaws
pub mod PrintLaws
pub mod DecimalLaws
pub mod FieldLaws
pub mod Examples
