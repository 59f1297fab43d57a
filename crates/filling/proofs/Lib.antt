pub mod Draws
pub mod Values
pub mod Pairs
pub mod Filling
