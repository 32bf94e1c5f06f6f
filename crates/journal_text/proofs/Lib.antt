pub mod HearingLemmas
pub mod Sending
