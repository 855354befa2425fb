-- What the calls of the forms in memory move, and which of them fail.
pub mod Memory
pub mod Links
