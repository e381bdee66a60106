-- What contracts of private functions alone cite.
pub mod CappedCount
pub mod Parts
pub mod StmtParts
