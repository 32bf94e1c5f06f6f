pub mod Changing
pub mod Lending
pub mod Plain
pub mod Rows
pub mod Telling
