pub mod Sets
pub mod Union
