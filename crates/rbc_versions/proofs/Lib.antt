pub mod Learning
pub mod Finding
pub mod Putting
pub mod Standing
pub mod Weights
