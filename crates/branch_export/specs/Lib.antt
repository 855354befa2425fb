-- Exports of one branch, and the scripts that bring their contents to a fresh site.
pub mod Exports
pub mod Scripts
pub mod Live
pub mod Rows
pub mod Readings
pub mod Exported
pub mod Gathering
pub mod Groups
pub mod Imported
