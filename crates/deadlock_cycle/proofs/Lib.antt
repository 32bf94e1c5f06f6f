pub mod PathLemmas
pub mod SearchLemmas
pub mod RingLemmas
pub mod OnceLemmas
pub mod FirstLemmas
pub mod ChoiceLemmas
