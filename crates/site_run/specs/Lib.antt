-- What was answered, what was written, and how a run ends.
pub mod Forms
pub mod Gathering
pub mod Buffering
pub mod Responses
pub mod Machines
pub mod Nexts
pub mod Ended
pub mod Endings
pub mod Prompt
