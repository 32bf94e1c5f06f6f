pub mod Firsts
pub mod Optional
pub mod Ordered
pub mod Parts
pub mod Unrolled
