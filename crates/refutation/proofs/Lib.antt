pub mod Clauses
pub mod Marks
pub mod Steps
pub mod Equations
