pub mod Redoing
pub mod Images
