-- A server's log: its front, and groups behind it.
pub mod Items
pub mod Logs
pub mod Laws
pub mod Fields
pub mod Steps
