-- Lemmas on the play of a script.
mod Playing
