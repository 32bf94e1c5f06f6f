pub mod NumbersLemmas
pub mod PartsLemmas
