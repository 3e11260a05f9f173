pub mod Seeing
pub mod Viewing
