-- Which words are those of the server.
pub mod Values
pub mod Doors
pub mod Sockets
pub mod Fetching
pub mod Capacity
pub mod Ruling
pub mod Collecting
pub mod Daemons
pub mod Helps
pub mod Checks
