-- The laws of spellings, and what they rest on.
pub mod Fronts
pub mod Ways
pub mod Numbers
pub mod Things
pub mod Laws
pub mod Lengths
pub mod Takings
pub mod Lists
pub mod Progress
pub mod Orders
pub mod Codes
pub mod Gathering
pub mod Wholes
pub mod Writings
pub mod Written
