pub mod Changed
pub mod Held
pub mod MaskedPages
pub mod Noted
pub mod Things
