pub mod BitSetLemmas
pub mod FieldLemmas
