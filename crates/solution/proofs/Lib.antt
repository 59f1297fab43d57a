pub mod Values
pub mod Sets
pub mod Trees
pub mod Groups
pub mod Constraints
pub mod Clauses
pub mod Closing
pub mod Draw
