pub mod Passes
pub mod Noting
pub mod Indexing
pub mod Skipping
pub mod Settling
pub mod Demand
