-- What contracts of private functions alone cite.
pub mod Fronts
pub mod Lexemes
pub mod Lines
pub mod Numbers
pub mod Quotes
pub mod Readers
pub mod SignForms
