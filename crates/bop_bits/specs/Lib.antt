pub mod BitSets
pub mod Bits
pub mod Class
pub mod MemoryNumbers
pub mod Pages
