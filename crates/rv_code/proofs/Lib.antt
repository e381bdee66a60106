pub mod DecodeLemmas
pub mod DecodeSound
pub mod Fields
pub mod Outputs
pub mod SequentialRunLemmas
pub mod StepLemmas
