-- What a site tells, and how it is found.
pub mod Kept
pub mod Own
pub mod Listed
pub mod Room
pub mod Txns
pub mod Sure
