-- What is answered for the lines of replies, and laws of lines.
pub mod Answers
pub mod Laws
pub mod Rows
