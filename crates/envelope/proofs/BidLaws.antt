-- Bids: how the parts of an envelope are written, and what sealing leaves.
use Rattle.std.proofs.Common.{◌≡◌, ℕ, ◌≤◌, List, ◌++◌, length, take, Ok, Result, sym, ap, ◌∙◌, ap₂, arith, eq-eqb}
use Rattle.std.proofs.lemmas.Bool.{le-leb}
use Rattle.fault.specs.Checks.{by_answer}
use Rattle.engine.specs.declared.variants.Variant.{Variant}
use Rattle.cipher.specs.Mode.{tag_size, tag, sealed_text}
use Rattle.cipher.specs.Calls.{seal_answer}
use Rattle.cipher.specs.declared.faults.CipherFault.{CipherFault}
use Rattle.envelope.specs.Letters.{letter}
use Rattle.envelope.specs.Terms.{held_bytes, bytes_of_terms}
use Rattle.envelope.specs.Heads.{head}
use Rattle.envelope.specs.Envelopes.{envelope_of, bid}
use Rattle.envelope.specs.declared.terms.Terms.{Terms}
use Rattle.envelope.specs.declared.faults.EnvelopeFault.{EnvelopeFault}
use Rattle.envelope.proofs.TermsLaws.{terms_length}

-- Sealing under lawful sizes is granted, and leaves what is new.
sealing_granted : (v : Variant) (key nonce associated text out place : List ℕ) → length key ≡ 16 → length nonce ≡ 12 → length associated ≤ 64 → length text ≡ 64 → length out ≡ 64 → length place ≡ tag_size v
    → seal_answer v key nonce associated text out place ≡ Ok tt
sealing_granted v key nonce associated text out place lk ln la lt lo lp =
    rw (
      eq-eqb (length key) 16 lk,
      eq-eqb (length nonce) 12 ln,
      le-leb (length associated) 65536 (omega arith),
      le-leb (length text) 65536 (omega arith),
      eq-eqb (length place) (tag_size v) lp,
      eq-eqb (length out) (length text) (lo ∙ sym lt),
    )

pub sealing_leaves : (v : Variant) (key nonce associated text out place x new old : List ℕ) (r : Result (Unit {0}) CipherFault)
    → r ≡ seal_answer v key nonce associated text out place → x ≡ by_answer r new old
    → length key ≡ 16 → length nonce ≡ 12 → length associated ≤ 64 → length text ≡ 64 → length out ≡ 64 → length place ≡ tag_size v → x ≡ new
sealing_leaves v key nonce associated text out place x new old r answer e lk ln la lt lo lp =
    e ∙ ap (λ q. by_answer q new old) (answer ∙ sealing_granted v key nonce associated text out place lk ln la lt lo lp)

pub enveloped_parts : (v : Variant) (key terms h l sealed tg place : List ℕ) → place ≡ h ++ (sealed ++ tg) → sealed ≡ sealed_text v key h l → tg ≡ tag v key h terms (sealed_text v key h l)
    → place ≡ envelope_of v key terms h l
unfolding envelope_of
enveloped_parts v key terms h l sealed tg place e es et = e ∙ ap₂ (λ a b. h ++ (a ++ b)) es et

-- The first bytes of what terms hold are the terms.
pub terms_cut : (t : Terms) (n : ℕ) (filled : List ℕ) → n ≡ length (bytes_of_terms t) → filled ≡ held_bytes t → take n filled ≡ bytes_of_terms t
unfolding bytes_of_terms
terms_cut t n filled en ef =
    let k : n ≡ t.len = omega (arith, terms_length t) in
    ap₂ take k ef

-- What a granted sealing of a bid leaves in the place.
pub bid_written : (v : Variant) (key : List ℕ) (t : Terms) (l b s amount n : ℕ) (note h lt filled place old : List ℕ) (r : Result (Unit {0}) EnvelopeFault)
    → r ≡ Ok tt → h ≡ head l b s → lt ≡ letter amount note → filled ≡ held_bytes t → n ≡ length (bytes_of_terms t)
    → place ≡ envelope_of v key (take n filled) h lt → place ≡ by_answer r (bid v key (bytes_of_terms t) l b s amount note) old
unfolding bid
bid_written v key t l b s amount n note h lt filled place old r er eh el ef en e =
    e ∙ ap (λ z. envelope_of v key z h lt) (terms_cut t n filled en ef) ∙ ap₂ (envelope_of v key (bytes_of_terms t)) eh el
    ∙ sym (ap (λ q. by_answer q (envelope_of v key (bytes_of_terms t) (head l b s) (letter amount note)) old) er)
