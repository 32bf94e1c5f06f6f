pub mod SpellingLemmas
pub mod StateLemmas
