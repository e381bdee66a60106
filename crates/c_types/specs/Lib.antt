pub mod Call
pub mod Env
pub mod TypeFaults
