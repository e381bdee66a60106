-- What contracts of private functions alone cite.
pub mod Prepared
pub mod PutMeaning
pub mod RunEnds
pub mod Untouched
