pub mod Words
pub mod Columns
pub mod Tuples
pub mod Forms
