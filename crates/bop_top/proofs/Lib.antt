pub mod Loads
pub mod Meanings
pub mod Refusals
pub mod Reports
pub mod Running
pub mod Services
pub mod TextRuns
