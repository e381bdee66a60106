-- What contracts of private functions alone cite.
pub mod Acts
pub mod Called
pub mod EvaluatorState
pub mod Opened
pub mod Pending
pub mod Started
pub mod Turned
