-- What a page of states holds.
pub mod Pages
