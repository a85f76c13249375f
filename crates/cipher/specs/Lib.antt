pub mod Blocks
pub mod Masks
pub mod Mode
pub mod Groups
pub mod Faults
pub mod Calls
pub mod Views
pub mod Theorems
