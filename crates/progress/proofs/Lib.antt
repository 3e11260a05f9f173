pub mod Chain
pub mod Measure
pub mod Totals
pub mod Turning
pub mod Ending
pub mod Done
pub mod Existing
