-- What comes in through the doors of a site, and what is answered there.
pub mod Room
pub mod Rules
pub mod Kept
pub mod Larger
pub mod RoomLaws
pub mod Rows
pub mod RoomRows
