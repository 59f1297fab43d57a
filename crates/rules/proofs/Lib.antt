pub mod Rules
pub mod Order
pub mod Alone
