pub mod Writes
pub mod Numbers
pub mod Clauses
