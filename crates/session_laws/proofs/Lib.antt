-- Why all plain sites of a running site give the same reply.
pub mod KeptForks
pub mod Alike
pub mod Grown
pub mod Tables
pub mod Stores
pub mod Answers
pub mod Sites
pub mod Requests
pub mod Shows
pub mod Commits
pub mod Floors
pub mod Tidies
pub mod OneReply
pub mod Judged
pub mod Deliveries
pub mod Pulls
