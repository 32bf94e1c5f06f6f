pub mod EndsLemmas
pub mod UndoLemmas
pub mod CloseLemmas
