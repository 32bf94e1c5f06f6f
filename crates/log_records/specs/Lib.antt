pub mod Fields
pub mod Content
pub mod Format
pub mod Rules
pub mod Sum
pub mod View
pub mod Reading
