-- The open transactions of a site: which each session has, and how a call changes them.
pub mod Places
pub mod Txns
pub mod Changes
pub mod Lending
