pub mod Acting
pub mod BlockNamesLemmas
pub mod Numbering
pub mod Over
pub mod Passing
pub mod ResolvedLemmas
pub mod RoutinesLemmas
pub mod ActionViews
