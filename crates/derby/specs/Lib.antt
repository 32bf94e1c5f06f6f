pub mod Inputs
pub mod Running
pub mod Text
pub mod Step
