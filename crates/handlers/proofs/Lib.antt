pub mod Cases
pub mod Rooms
