pub mod World
pub mod Catalog
pub mod Meaning
pub mod Levels
pub mod Legal
pub mod Text
pub mod Writing
