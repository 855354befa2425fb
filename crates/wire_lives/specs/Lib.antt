-- How sites introduce themselves, in bytes.
pub mod Spellings
pub mod Readings
pub mod Laws
