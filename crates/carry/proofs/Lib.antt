pub mod Writing
mod Above
