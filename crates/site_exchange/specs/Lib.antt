-- What sites give each other: when the parts stand for a site, how a record is judged, what is news, and the waiting room.
pub mod Stands
pub mod Judgements
pub mod News
pub mod Rooms
