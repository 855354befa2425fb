-- A site that opens.
mod Opened
