-- What sealing a bid answers.
use Rattle.std.specs.Prelude.{ℕ, List, [], ◌∷◌, length, Result, ◌==◌, nat_le}
use Rattle.fault.specs.Checks.{Check, decision}
use Rattle.engine.specs.declared.variants.Variant.{Variant}
use Rattle.cipher.specs.Calls.{key_check}
use Rattle.cipher.specs.declared.faults.CipherFault.{CipherFault}
use Rattle.envelope.specs.Letters.{most_cents, most_note_bytes}
use Rattle.envelope.specs.Envelopes.{envelope_size}
use Rattle.envelope.specs.declared.faults.EnvelopeFault.{EnvelopeFault}
use Rattle.envelope.specs.declared.faults.EnvelopeFault.TheVariants.{EnvelopeLength, NoteLength, AmountAboveLimit, Cipher}

-- A check of the cipher, whose fault is held whole.
abbrev pub by_cipher : Check CipherFault → Check EnvelopeFault
by_cipher c = (c.0, Cipher c.1)

-- Sealing a bid: the key, which the cipher checks, the place, the note and the amount, in this order.
abbrev pub bid_answer : Variant → List ℕ → ℕ → List ℕ → List ℕ → Result (Unit {0}) EnvelopeFault
bid_answer v key amount note place =
    decision (by_cipher (key_check key) ∷ (((length place == envelope_size v), EnvelopeLength)
    ∷ ((nat_le (length note) most_note_bytes, NoteLength) ∷ ((nat_le amount most_cents, AmountAboveLimit) ∷ [])))) tt
