pub mod Planes
pub mod Moves
pub mod Packed
pub mod Kinds
