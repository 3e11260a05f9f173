pub mod Stored
pub mod Placed
