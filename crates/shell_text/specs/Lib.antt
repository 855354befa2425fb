-- How requests and replies are written as lines of text, and the laws of these lines.
pub mod RequestLines
pub mod ReplyLines
pub mod Spelled
pub mod Answers
pub mod RequestTexts
pub mod ReplyTexts
pub mod Laws
pub mod Passing
