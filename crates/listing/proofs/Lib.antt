pub mod Continuing
pub mod Legs
pub mod Pairing
