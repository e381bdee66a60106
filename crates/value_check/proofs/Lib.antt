pub mod FirstDifferenceLemmas
pub mod FirstOfLemmas
