-- The laws of this crate.
pub mod Unique
pub mod AttributeUnique
pub mod ChecksLaws
pub mod Numbers
pub mod AttributeNumbers
pub mod Listed
pub mod Refusals
pub mod RoomLaws
pub mod ComparisonTheorems
pub mod OptionsTheorems
pub mod PlainLaws
pub mod Pinned
pub mod Examples
pub mod WorkedAttributes
