pub mod Printing
pub mod Hearing
