pub mod Carrying
pub mod Answers
pub mod Links
pub mod Above
pub mod GoingOn
mod Examples
mod ExampleGoingOn
