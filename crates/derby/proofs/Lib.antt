pub mod InputLemmas
pub mod StepLemmas
pub mod RunLemmas
