pub mod Declarations
pub mod GrammarWords
pub mod StatementGrammar
pub mod Units
pub mod Whole
pub mod private
