pub mod Parts
pub mod Run
