mod Filling
mod Granted
mod Inserted
mod Last
pub mod Laws
mod Neighbours
mod Rises
mod Scans
mod Shifts
