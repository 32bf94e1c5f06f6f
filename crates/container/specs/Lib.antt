pub mod Allocation
