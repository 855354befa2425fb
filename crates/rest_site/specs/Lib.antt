-- What lasts of the requests to a site and of the lives that it knows, in bytes, and when such bytes are taken back.
pub mod Stands
pub mod Notes
pub mod Takings
pub mod Joinings
pub mod Oldest
pub mod Ceilings
pub mod Ruled
-- why the site is a machine that starts again, with what is loaded of a checkpoint
pub mod LoadedAlike
pub mod RestingLaws
