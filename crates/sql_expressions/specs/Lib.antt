pub mod View
pub mod Capped
pub mod Shape
pub mod State
