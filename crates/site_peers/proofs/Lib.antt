-- Lemmas on a peer's turns.
mod Items
mod Counts
mod Telling
mod Delivering
mod Turning
mod Shortness
mod Worked
mod Exchanging
mod Meeting
mod Rooms
