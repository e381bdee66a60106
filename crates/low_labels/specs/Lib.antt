pub mod Operation
pub mod Placed
pub mod Emission
pub mod Closed
