-- What a site is asked whose store is lent, and what it gives.
pub mod Gives
pub mod Joins
