pub mod ContentLemmas
pub mod Prefixes
