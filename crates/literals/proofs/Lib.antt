pub mod Named
pub mod Judged
pub mod Taken
