-- What lasts of a machine's requests.
pub mod Rests
