-- Lemmas on what is served.
pub mod Runs
pub mod Serving
pub mod Stores
pub mod Opened
pub mod Words
pub mod Checking
