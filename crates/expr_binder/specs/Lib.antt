pub mod Found
pub mod Seen
pub mod Walking
pub mod Listing
pub mod Splitting
