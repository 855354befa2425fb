-- How records, consents, items and batches are spelled in bytes, and how they are read back.
pub mod Spellings
pub mod Valid
pub mod Spelled
pub mod Lengths
pub mod Fronts
pub mod Readings
pub mod Takings
pub mod Laws
