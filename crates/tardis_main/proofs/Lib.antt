-- Lemmas on commands of the program.
mod Words
mod WorldRuns
mod Unserved
mod Unexported
mod Helping
mod Others
mod Carrying
mod Lacking
