-- The amount that the envelope of a slot offers, from its parts.
use Rattle.std.proofs.Common.{◌≡◌, ℕ, cond, ◌++◌, length, take, drop, Ok, Result, sym, ap, ◌∙◌}
use Rattle.std.specs.Str.{bytes_eq}
use Rattle.std.proofs.lemmas.Bool.{ne_eqb}
use Rattle.std.proofs.lemmas.List.{take_at, drop_at, drop-drop}
use Rattle.engine.specs.declared.variants.Variant.{Variant}
use Rattle.cipher.specs.Mode.{tag_size, tag, opened_text}
use Rattle.envelope.specs.Heads.{head}
use Rattle.envelope.specs.Letters.{amount_offered}
use Rattle.envelope.specs.Envelopes.{head_part, sealed_part, tag_part}
use Rattle.envelope.proofs.HeadLaws.{head_length}
use Rattle.room.specs.Sales.{Bytes}
use Rattle.room.specs.Rooms.{envelope_in}
use Rattle.room.specs.Calls.{amount_held}
use Rattle.room.specs.declared.faults.RoomFault.{RoomFault}
use Rattle.room.specs.declared.slots.Slot.{Slot}

module _ (v : Variant) (lot : ℕ) (terms : Bytes) (x : Slot) where
  abbrev top : Bytes
  top = head lot x.bidder x.sequence

  abbrev end : Bytes
  end = take (tag_size v) x.tag

  abbrev kept : Bytes
  kept = top ++ (x.letter ++ end)

  at_head : top ≡ head_part kept
  at_head = sym (take_at top (x.letter ++ end) 12 (head_length lot x.bidder x.sequence))

  at_rest : drop 12 kept ≡ x.letter ++ end
  at_rest = drop_at top (x.letter ++ end) 12 (head_length lot x.bidder x.sequence)

  module _ (long : length x.letter ≡ 64) where
    at_sealed : x.letter ≡ sealed_part kept
    at_sealed = sym (ap (take 64) at_rest ∙ take_at x.letter end 64 long)

    at_tag : end ≡ tag_part kept
    at_tag = sym (sym (drop-drop 64 12 kept) ∙ ap (drop 64) at_rest ∙ drop_at x.letter end 64 long)

    pub amount_kept : (r : Result ℕ RoomFault) (nonce place : Bytes) → (x.sequence ≡ 0 → ⊥) → nonce ≡ top → place ≡ end
        → r ≡ Ok (cond (bytes_eq place (tag v x.key nonce terms x.letter)) (amount_offered (opened_text v x.key nonce x.letter)) 0)
        → r ≡ Ok (amount_held v x.key terms (envelope_in v lot x))
    amount_kept r nonce place some en ep h =
        let pt : place ≡ tag_part kept = ep ∙ at_tag in
        let ph : nonce ≡ head_part kept = en ∙ at_head in
        rw (ne_eqb x.sequence 0 some)
        (h ∙ (λ i. Ok (cond (bytes_eq (pt i) (tag v x.key (ph i) terms (at_sealed i))) (amount_offered (opened_text v x.key (ph i) (at_sealed i))) 0)))
