pub mod Answering
pub mod Cases
pub mod Combining
pub mod Lines
pub mod Filling
