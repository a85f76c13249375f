mod Lanes
mod Made
mod Interleaving
mod Exchanges
mod Weaving
mod Columns
