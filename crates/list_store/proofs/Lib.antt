pub mod HolderLemmas
pub mod BegunLemmas
pub mod HeapLemmas
pub mod SlotLemmas
pub mod ListLemmas
pub mod StoreLemmas
