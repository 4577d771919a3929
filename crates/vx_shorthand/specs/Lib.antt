pub mod Every
pub mod Faults
pub mod Named
