pub mod Lines
pub mod Plan
