pub mod Cutting
pub mod Lines
mod Examples
