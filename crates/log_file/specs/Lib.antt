pub mod Append
pub mod Control
pub mod Crash
pub mod List
pub mod Reading
pub mod Tail
