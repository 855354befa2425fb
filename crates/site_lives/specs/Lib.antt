-- Lives, and how a site meets others.
pub mod Lives
pub mod Acquainted
pub mod Laws
pub mod Things
pub mod Bytes
pub mod RestLaws
pub mod Rows
