pub mod Places
pub mod Outside
pub mod Walks
pub mod Alone
