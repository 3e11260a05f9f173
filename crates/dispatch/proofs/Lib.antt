pub mod Aiming
pub mod Steps
