-- What contracts of private functions alone cite.
pub mod Checking
pub mod Defined
pub mod Firsts
pub mod Functions
pub mod Marker
pub mod Parts
