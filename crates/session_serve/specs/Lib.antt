-- What a session asks, what becomes of it, and how the session ends.
pub mod Turns
pub mod Replies
pub mod Sessions
pub mod Passes
pub mod Asking
pub mod Prompts
pub mod Laws
