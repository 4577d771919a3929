pub mod Cells
pub mod Chains
pub mod Join
pub mod Keys
pub mod Numbers
pub mod Pairs
pub mod Runs
pub mod Messages
