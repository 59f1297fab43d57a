pub mod Writing
pub mod Groups
pub mod Values
pub mod Assignment
pub mod RoundTrip
pub mod SaidBack
mod Examples
