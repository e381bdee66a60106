pub mod FirstDifference
pub mod FirstOf
