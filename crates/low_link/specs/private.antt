-- What contracts of private functions alone cite.
pub mod BegunCode
pub mod DataBytes
