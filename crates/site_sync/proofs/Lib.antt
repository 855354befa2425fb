-- Lemmas on items, on steps, on what is read, and on links.
mod Items
mod Counts
mod Going
mod Delivered
mod Fetched
mod Calls
mod Exact
mod Exchanged
mod Rounding
mod Causes
mod Told
