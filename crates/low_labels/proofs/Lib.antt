pub mod ClosedLemmas
pub mod EmissionLemmas
pub mod Standing
