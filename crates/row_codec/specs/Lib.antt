pub mod StoredRow
pub mod Worked
