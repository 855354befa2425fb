-- What a durable run replies, keeps and leaves on its disk, and how it ends.
pub mod Replies
pub mod Groups
pub mod Ends
pub mod Buffering
pub mod Turns
pub mod Prompt
pub mod Commands
