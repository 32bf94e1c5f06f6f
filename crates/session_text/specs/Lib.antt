pub mod Text
pub mod Hearing
