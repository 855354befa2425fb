-- Rules that join two leaves: what value each gives, which leaves are joined, and the request for it.
pub mod Parts
pub mod Values
pub mod Sides
pub mod Numbers
pub mod Joining
pub mod Passing
pub mod Valued
pub mod Settlings
pub mod Joints
pub mod Joins
pub mod Searches
pub mod Laws
pub mod Reasons
pub mod Unsettled
