pub mod KindLemmas
pub mod ReservedLemmas
pub mod ReadingLemmas
pub mod OrderLemmas
pub mod CoverLemmas
pub mod AloneLemmas
