pub mod Arrays
pub mod Clauses
pub mod Constraints
