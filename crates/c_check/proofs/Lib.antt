pub mod DefinedNames
pub mod Initialisers
pub mod RegionLemmas
pub mod SameTypes
pub mod Scopes
