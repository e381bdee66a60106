pub mod BlockNames
pub mod Scoped
pub mod private
