pub mod Modes
pub mod Names
pub mod Lock
pub mod Waits
pub mod Proper
pub mod Serving
pub mod Apart
pub mod Escalation
