pub mod EffectLemmas
pub mod NotingLemmas
pub mod ReplayProof
pub mod SpanLemmas
pub mod SpotContents
pub mod SpotsEverywhere
pub mod StepTwins
pub mod TouchLemmas
