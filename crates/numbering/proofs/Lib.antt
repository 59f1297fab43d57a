pub mod Arrays
pub mod Totalizers
pub mod Models
