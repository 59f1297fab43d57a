pub mod Demand3
pub mod Filling
pub mod Entries
