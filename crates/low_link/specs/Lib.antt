pub mod Compiled
pub mod Front
pub mod Refused
pub mod SourceSimulation
pub mod private
