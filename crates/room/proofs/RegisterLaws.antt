-- The law of lawful registers, for the crates above.
pub use Rattle.room.proofs.Registers.{lawful_exactly}
