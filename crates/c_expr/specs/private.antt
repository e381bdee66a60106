-- What contracts of private functions alone cite.
pub mod ExpressionReading
pub mod ParserRules
