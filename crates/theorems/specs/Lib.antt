-- The definitions of this crate.
pub mod Numbers
pub mod AttributeNumbers
pub mod Examples
pub mod WorkedAttributes
