-- Lemmas on lines and on the lengths of requests.
mod Lengths
mod Asked
mod Nothing
