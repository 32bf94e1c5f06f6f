pub mod Closing
pub mod MemberLists
pub mod Naming
pub mod Turning
