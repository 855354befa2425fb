-- Which requests are lent from their bytes.
pub mod Lent
