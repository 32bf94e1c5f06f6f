pub mod Orders
pub mod Tokens
