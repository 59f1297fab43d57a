pub mod Lines
pub mod First
pub mod Promises
mod Examples
