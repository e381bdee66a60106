pub mod CommandTable
pub mod OptionTable
pub mod RequestBounds
pub mod WordRequests
pub mod private
