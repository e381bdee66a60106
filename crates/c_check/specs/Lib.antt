pub mod CheckFaults
pub mod private
