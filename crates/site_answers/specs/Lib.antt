-- What the answers of a site are made of, beside its store.
pub mod Stops
pub mod Asks
pub mod Told
pub mod Slots
