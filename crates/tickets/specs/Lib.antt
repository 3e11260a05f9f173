pub mod Tickets
pub mod Steps
pub mod Table
pub mod Swapping
pub mod Targets
pub mod Invariant
