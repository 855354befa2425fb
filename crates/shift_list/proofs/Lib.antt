-- Laws of lists of which a part was turned.
pub mod Turned
