-- What lasts of a site, and why.
pub mod Passing
pub mod Adds
pub mod Trails
pub mod Rests
pub mod Seen
pub mod Spelled
pub mod Valid
pub mod Fitting
pub mod FittingTrails
pub mod Larger
pub mod Dry
pub mod Living
pub mod Runs
pub mod Seeing
pub mod Wrong
