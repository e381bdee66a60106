pub mod Actions
pub mod Context
pub mod DeclaredNames
pub mod Nodes
pub mod Routines
pub mod private
