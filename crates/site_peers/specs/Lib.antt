-- What a peer of a server does of what the edge tells, and runs of it.
pub mod Asking
pub mod Questions
pub mod Hearing
pub mod Introductions
pub mod Times
pub mod Moves
pub mod Turns
pub mod Runs
pub mod Connections
pub mod Rows
