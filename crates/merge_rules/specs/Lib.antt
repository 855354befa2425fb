-- The auto step: two leaves are merged by rules.
pub mod Laws
pub mod Auto
pub mod Steps
