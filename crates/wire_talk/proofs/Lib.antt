-- The laws of the spellings of requests and replies, and what they rest on.
pub mod Requests
pub mod Replies
pub mod RequestFields
pub mod ReplyFields
pub mod Arms
pub mod Laws
