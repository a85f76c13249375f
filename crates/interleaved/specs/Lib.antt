pub mod Moves
pub mod Words
