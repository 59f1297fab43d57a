pub mod Among
pub mod Differing
