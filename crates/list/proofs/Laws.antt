-- What crates above may use of the definitions without opening them.

-- A list with one more entry: its length, its entries, and that it rises.
pub use Rattle.list.proofs.Inserted.{length_inserted, gains_one_entry}
pub use Rattle.list.proofs.Rises.{rising_inserted}
-- A granted insertion, and the number of places.
pub use Rattle.list.proofs.Granted.{granted, granted_entries, length_places_after}
-- An entry that comes after all others.
pub use Rattle.list.proofs.Last.{none_equal, inserted_last, last_not_refused, last_placed}
-- Entries that rise, inserted one after another.
pub use Rattle.list.proofs.Filling.{next_answer, next_count, next_places}
-- Lists that rise, by places, by neighbours and by keys.
pub use Rattle.list.proofs.Neighbours.{rising_empty, rising_at, rising_from_neighbours, before_by_key, key_below, same_key, keys_rise, rising_from_keys}
