pub mod Boxed
pub mod Endings
pub mod Forms
pub mod Verdicts
