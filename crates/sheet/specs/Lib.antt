pub mod Line
pub mod Blanks
pub mod Orders
pub mod Refusals
