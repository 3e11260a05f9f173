pub mod Walking
pub mod Counting
