pub mod Examples
pub mod Telling
pub mod Once
pub mod Order
pub mod Pairs
pub mod Rising
mod ExamplesAnswers
