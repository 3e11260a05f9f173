pub mod Meeting
pub mod Statements
