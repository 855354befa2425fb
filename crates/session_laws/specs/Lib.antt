-- What follows from what a site in memory stands for.
pub mod Laws
