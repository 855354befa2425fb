-- What a key that is there does to a set of keys.
pub mod KnownKeys
