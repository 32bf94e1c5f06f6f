pub mod OneLemmas
pub mod FieldLemmas
pub mod ChangeLemmas
pub mod ByteLemmas
pub mod BodyLemmas
pub mod WholeLemmas
pub mod EncodeLemmas
