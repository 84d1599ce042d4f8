-- The definitions of this crate, in the order in which to read them.
pub mod Operator
pub mod PairList
pub mod Match
pub mod Evaluation
