pub mod Trees
pub mod Groups
pub mod Entrants
pub mod Settled
