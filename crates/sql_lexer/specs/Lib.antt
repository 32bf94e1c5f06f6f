pub mod Bytes
pub mod Reading
pub mod Kinds
pub mod Tokens
pub mod Splitting
pub mod Reserved
pub mod Order
