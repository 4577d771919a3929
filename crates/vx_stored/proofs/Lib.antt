pub mod StoredScalars
pub mod TextRows
