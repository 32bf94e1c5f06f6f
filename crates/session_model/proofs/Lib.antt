pub mod PlaceLemmas
pub mod BaseLemmas
pub mod GrowingLemmas
pub mod FitLemmas
pub mod StableLemmas
pub mod EntryLemmas
pub mod LockLemmas
