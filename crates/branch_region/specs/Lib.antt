-- Which states lie between several states and those that all of them share.
pub mod Regions
pub mod Slots
pub mod Walks
pub mod Marks
