-- The laws of the lines of requests and replies.
pub mod RequestsRead
pub mod RepliesRead
pub mod Lengths
pub mod Arms
pub mod LineTexts
pub mod Passings
pub mod Finished
pub mod ReplyFits
pub mod RequestFits
pub mod LineReads
pub mod NamedReads
