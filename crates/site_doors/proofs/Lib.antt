-- What follows for a site behind its doors.
pub mod Seen
pub mod Told
pub mod Sure
-- And for its file, under larger limits.
pub mod Larger
-- And for the room of its clients.
pub mod Shares
pub mod Bounds
