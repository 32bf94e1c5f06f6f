pub mod StoredRowLemmas
pub mod WriteLemmas
pub mod ReadLemmas
pub mod RowLoops
pub mod WorkedLemmas
