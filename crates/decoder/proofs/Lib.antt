pub mod Answered
pub mod Named
pub mod Decoded
pub mod Viewed
