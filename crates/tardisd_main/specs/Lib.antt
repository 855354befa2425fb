-- What a server does.
pub mod Doors
pub mod Ends
pub mod Sites
pub mod Files
pub mod Stores
pub mod Checks
pub mod Runs
