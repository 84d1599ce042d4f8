-- The definitions of this crate, in the order in which to read them.
pub mod Refusal
pub mod Family
pub mod Shape
pub mod Operator
pub mod Component
pub mod Value
pub mod Reader
pub mod Reading
pub mod Refusals
