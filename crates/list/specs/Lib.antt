pub mod Faults
pub mod Insertion
pub mod Keeping
pub mod Order
