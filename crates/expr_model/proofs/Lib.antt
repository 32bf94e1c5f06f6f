pub mod MemberLemmas
pub mod TotalLemmas
