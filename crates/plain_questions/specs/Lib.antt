-- What may be asked of a site without a session.
pub mod Contents
pub mod Answer
pub mod Spellings
pub mod Valid
pub mod Readings
pub mod Laws
pub mod PageLaws
pub mod ReadLaws
pub mod WrongAnswers
pub mod RowWords
pub mod RowsOfReads
pub mod RowsOfPages
pub mod RowsOfSites
pub mod RowsOfBytes
