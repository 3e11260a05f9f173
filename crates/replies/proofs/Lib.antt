pub mod Placing
pub mod Standing
pub mod Stepping
