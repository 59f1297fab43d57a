pub mod Steps
pub mod Codes
pub mod Alone
pub mod InOrder
pub mod Places
