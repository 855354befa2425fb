-- Why rows keep what they keep.
pub mod LastArrived
pub mod Kept
pub mod OneMore
pub mod Fitting
pub mod Joined
pub mod Sound
pub mod Places
pub mod Wrong
