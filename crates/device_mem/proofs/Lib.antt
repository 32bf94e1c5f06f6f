pub mod CutLemmas
pub mod ImagesLemmas
pub mod LatestLemmas
pub mod Moving
pub mod Pasting
pub mod Syncs
