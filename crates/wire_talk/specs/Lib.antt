-- How requests, refusals and replies are spelled in bytes, and how they are read back.
pub mod Codes
pub mod Spellings
pub mod Valid
pub mod Spelled
pub mod RequestReadings
pub mod ReplyReadings
pub mod Memory
pub mod Laws
pub mod Rows
