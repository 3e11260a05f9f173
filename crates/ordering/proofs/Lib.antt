pub mod Placing
pub mod Order
pub mod Listed
pub mod Rising
