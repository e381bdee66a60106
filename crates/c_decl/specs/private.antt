-- What contracts of private functions alone cite.
pub mod DeclarationReading
pub mod Lowers
pub mod StatementReading
pub mod UnitReading
