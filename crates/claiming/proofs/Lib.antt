pub mod Missing
pub mod Claiming
