pub mod Nets
pub mod Standing
pub mod Effects
