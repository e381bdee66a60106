-- What contracts of private functions alone cite.
pub mod Acted
pub mod Resolved
