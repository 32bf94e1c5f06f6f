pub mod Orders
pub mod World
pub mod Legal
pub mod Places
