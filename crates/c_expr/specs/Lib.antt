pub mod Grammar
pub mod Leveled
pub mod Next
pub mod Parsing
pub mod Reads
pub mod Spelled
pub mod private
