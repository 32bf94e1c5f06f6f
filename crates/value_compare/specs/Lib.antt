pub mod Text
pub mod Order
pub mod Logic
pub mod Storing
