-- Why nobody can tell twins apart.
pub mod Places
pub mod Compared
pub mod Ways
pub mod Sites
pub mod Outlines
pub mod TwinTables
pub mod TwinStores
pub mod Keys
pub mod Holding
pub mod HeldReads
