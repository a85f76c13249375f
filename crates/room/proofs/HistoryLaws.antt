-- The laws of histories, for the crates above: runs go on, and what a room holds hangs on its sale and the calls that it met.
pub use Rattle.room.proofs.Histories.{runs_on, after_all, room_left}
