pub mod Entrants
pub mod Meanings
