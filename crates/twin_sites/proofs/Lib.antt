-- Why nobody can tell twins apart.
pub mod Alike
pub mod Rests
pub mod Going
pub mod Sessions
