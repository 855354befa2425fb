-- How lives stay, and last.
pub mod Stays
pub mod Trails
pub mod Once
pub mod Lasting
pub mod Larger
pub mod Ahead
pub mod Fitting
pub mod Spelled
pub mod Onward
