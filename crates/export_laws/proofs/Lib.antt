-- Why the script of an export brings its contents back.
pub mod Chains
pub mod Steps
pub mod Runs
pub mod Contents
pub mod Laws
pub mod Frames
pub mod Wrong
pub mod Short
