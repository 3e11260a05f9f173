pub mod Placed
pub mod Standing
pub mod Written
pub mod Opened
pub mod Beside
pub mod Viewed
