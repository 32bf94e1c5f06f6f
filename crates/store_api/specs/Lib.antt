pub mod View
pub mod Catalog
pub mod Order
pub mod Frames
pub mod Effects
pub mod Crashes
