-- The laws of this crate.
pub mod Rates
pub mod RatesGiven
pub mod Examples
