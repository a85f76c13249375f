-- The laws of a room's calls: the definitions compute.
use Rattle.std.proofs.Common.{length, refl}
use Rattle.std.proofs.lemmas.Bool.{eq-eqb, ne_eqb, lt-leb, le-leb, le-ltb}
use Rattle.room.specs.Calls.{lodging_checks}
use Rattle.room.specs.CallLaws.{ChecksInOrder, CallLaws}
use Rattle.room.proofs.Registers.{lawful_exactly}

in_order : ChecksInOrder
unfolding lodging_checks
in_order = record {
  making_looks_at_the_terms_first = λ s long. rw (lt-leb (length s.terms) 64 long) refl;
  making_then_at_the_register = λ s short unlawful. rw (le-leb (length s.terms) 64 short, unlawful) refl;
  lodging_looks_at_the_phase_first = λ r e. refl;
  then_at_the_length = λ r e p h. rw (p, ne_eqb _ _ h) refl;
  then_at_the_lot = λ r e p l h. rw (p, eq-eqb _ _ l, ne_eqb _ _ h) refl;
  then_at_the_bidder = λ r e p l q h. rw (p, eq-eqb _ _ l, eq-eqb _ _ q, h) refl;
  then_at_the_sequence = λ r e p l q k h. rw (p, eq-eqb _ _ l, eq-eqb _ _ q, k, le-ltb _ _ h) refl;
  opening_looks_at_the_phase_first = λ r o p. rw p refl;
  opening_then_at_the_places = λ r o unlawful. rw unlawful refl;
}

pub call_laws : CallLaws
call_laws = record {
  a_register_is_lawful_exactly_when_it_has_1_to_64_entries_by_rising_bidder = lawful_exactly;
  checks_in_order = in_order;
  asking_is_answered_after_closing_as_before = λ r b. refl;
  lodged_before_the_granted_closing = λ d e h b o f g. refl;
  answers_up_to_and_with_the_granted_closing = λ e b o f g. refl;
}
