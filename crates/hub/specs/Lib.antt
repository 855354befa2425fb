-- What a hub answers, what each of its connections has of it, and what its edge sees.
pub mod Settlings
pub mod Upkeeps
pub mod Answering
pub mod Peers
pub mod Noting
pub mod Connections
pub mod Telling
pub mod Talks
pub mod Turns
pub mod Timing
pub mod Runs
pub mod Keeping
pub mod Laws
pub mod PeerLaws
pub mod Doors
pub mod DoorLaws
pub mod Memory
