pub mod Redo
pub mod Showing
