pub mod Search
pub mod First
pub mod Ordered
pub mod Steps
pub mod Choice
