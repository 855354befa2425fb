-- Lemmas on the two sides of a server.
mod Joining
