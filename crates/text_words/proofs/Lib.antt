-- Words are read back from text.
pub mod Bytes
pub mod Untils
pub mod WordsRead
pub mod Putting
pub mod TextReads
pub mod IdsPrinted
pub mod Sequences
pub mod Ordered
pub mod LineWords
pub mod Decodings
