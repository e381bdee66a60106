pub mod IntegerTypes
pub mod Seen
pub mod Spine
