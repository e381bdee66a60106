pub mod Arguments
pub mod Ending
pub mod FirstValues
pub mod Framing
pub mod Halting
pub mod Living
pub mod Planned
