pub mod Swapping
pub mod Trying
pub mod Telling
pub mod Advancing
