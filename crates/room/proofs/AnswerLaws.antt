-- The laws of answers, for the crates above: a grant is no refusal.
pub use Rattle.room.proofs.CodeChecks.{not_both}
