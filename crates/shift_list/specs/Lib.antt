-- What a list in one piece is seen as.
pub mod Shifted
