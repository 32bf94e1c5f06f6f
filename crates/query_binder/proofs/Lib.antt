pub mod Asked
pub mod ItemSteps
pub mod Keys
pub mod TableSteps
pub mod Tested
