pub mod Materialized
pub mod Union
