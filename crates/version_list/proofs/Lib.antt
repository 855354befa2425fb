-- Laws of lists of versions in order, of walks from the newest on, of room, and of versions that are added.
pub mod Orders
pub mod Rooms
pub mod Adds
pub mod Noted
pub mod Listing
pub mod Places
pub mod Promotes
pub mod Handed
pub mod Chunks
pub mod Rows
pub mod Moves
pub mod Seated
pub mod Joins
