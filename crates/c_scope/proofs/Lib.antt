mod Closing
mod Declaring
mod IndexNumbers
pub mod Keys
mod ScopeFrames
