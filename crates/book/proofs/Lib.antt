pub mod Stored
pub mod Rooms
pub mod Turning
pub mod Stepping
pub mod Answering
pub mod Returned
