pub mod Groups
pub mod Judging
