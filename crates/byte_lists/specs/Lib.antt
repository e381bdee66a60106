pub mod Content
pub mod Prefix
