pub mod Clash
pub mod Combines
