pub mod Writes
pub mod Fields
pub mod Rows
pub mod Lengths
pub mod RoundTrip
pub mod Entry
