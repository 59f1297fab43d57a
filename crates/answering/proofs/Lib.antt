pub mod Lines
pub mod Law
pub mod Draws
