pub mod Walks
pub mod Rows
pub mod Arms
pub mod Forms
pub mod Looping
pub mod Conjuncts
