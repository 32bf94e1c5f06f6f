pub mod MarkLemmas
pub mod OverLemmas
pub mod ClaimLemmas
pub mod SoleLemmas
