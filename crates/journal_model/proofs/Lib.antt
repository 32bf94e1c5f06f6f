pub mod BaseLemmas
pub mod GrowingLemmas
pub mod WritingLemmas
