pub mod Spongent
pub mod Keccak
pub mod Permutation
pub mod Names
pub mod Faults
pub mod Calls
pub mod Theorems
