pub mod Answer
pub mod Certify
pub mod Draw
