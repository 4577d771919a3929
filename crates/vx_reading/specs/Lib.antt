pub mod BoolRows
