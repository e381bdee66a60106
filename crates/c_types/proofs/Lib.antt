pub mod EnvLemmas
pub mod TypeFaultsLemmas
