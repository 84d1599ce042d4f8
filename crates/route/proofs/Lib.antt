-- The laws of this crate.
pub mod AlikeLaws
pub mod Examples
pub mod FeasibleLaws
pub mod PassLaws
pub mod RouteLaws
pub mod SoundLaws
pub mod DestinationLaws
