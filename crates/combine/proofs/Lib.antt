pub mod Groups
pub mod Lines
pub mod Clashes
pub mod Read
pub mod Laws
pub mod Entry
