pub mod CharLemmas
pub mod OrderLemmas
