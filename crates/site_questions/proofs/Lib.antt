-- What follows for the answers to questions.
pub mod Kept
pub mod Results
pub mod Orders
pub mod Listed
pub mod Own
pub mod Paging
pub mod Paged
pub mod Based
pub mod Lines
