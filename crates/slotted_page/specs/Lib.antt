pub mod Content
pub mod Layout
pub mod Sum
pub mod Edits
pub mod Format
pub mod Fault
