pub mod Entrants
pub mod Lines
mod Examples
