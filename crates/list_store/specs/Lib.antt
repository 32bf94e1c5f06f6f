pub mod Heaps
pub mod Holders
pub mod Begun
pub mod Lists
pub mod Places
pub mod Told
