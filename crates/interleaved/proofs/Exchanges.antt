-- The bits of a word after an exchange of those under a mask with those some places above, and after several exchanges.
use Rattle.std.proofs.Common.{◌≡◌, ℕ, ◌+◌, ◌-◌, ◌*◌, ◌/◌, ◌%◌, ◌^◌, ◌<◌, Bool, true, false, cond, not, ◌&&◌, ◌||◌, eqb, ltb, sym, refl, ap, ◌∙◌, ap₂, ⊎_elim, arith}
use lib.Bits.{bit_and, bit_xor}
use Rattle.std.proofs.Math.Bool.{and-false}
use Rattle.std.proofs.lemmas.Bool.{cases_lt, lt-ltb, le-ltb, ltb-true, eqb-true, false≢true, agree_below, agree_below_at}
use Rattle.binary.specs.Bits.{bit, differs}
use Rattle.binary.proofs.BitLaws.{bit_of_and, bit_of_xor}
use Rattle.binary.proofs.RotationLaws.{bit_shr, bit_shl, bit_shl_low, bit_mod}
use Rattle.interleaved.specs.Moves.{exchange_source, are_apart, Moved}

-- a bit x added to what the exchange with a takes from it
toggled : (m x a : Bool) → differs x (differs x a && m) ≡ cond m a x
toggled true true true = refl
toggled true true false = refl
toggled true false true = refl
toggled true false false = refl
toggled false true true = refl
toggled false true false = refl
toggled false false true = refl
toggled false false false = refl

differs_comm : (a b : Bool) → differs a b ≡ differs b a
differs_comm true true = refl
differs_comm true false = refl
differs_comm false true = refl
differs_comm false false = refl

pub keeps : (b : Bool) → differs b false ≡ b
keeps true = refl
keeps false = refl

-- x at the place, a at the place above, z at the place below
settled : (m n l x a z : Bool) → (not m || (l || not n)) ≡ true → differs (cond m a x) (cond l false (differs x z && n)) ≡ cond m a (cond l x (cond n z x))
settled true n true x a z e = keeps a
settled true true false x a z e = absurd (false≢true e)
settled true false false x a z e = ap (differs a) (and-false (differs x z)) ∙ keeps a
settled false n true x a z e = keeps x
settled false n false x a z e = toggled n x z

push : (b l c : Bool) (f : ℕ → Bool) (i j k : ℕ) → cond b (f i) (cond l (f j) (cond c (f k) (f j))) ≡ f (cond b i (cond l j (cond c k j)))
push true l c f i j k = refl
push false true c f i j k = refl
push false false true f i j k = refl
push false false false f i j k = refl

abbrev taken : ℕ → ℕ → ℕ → ℕ
taken x k m = bit_and (bit_xor x (x / 2 ^ k)) m

bit_taken : (x k m p : ℕ) → bit (taken x k m) p ≡ (differs (bit x p) (bit x (k + p)) && bit m p)
bit_taken x k m p =
    bit_of_and (bit_xor x (x / 2 ^ k)) m p ∙ ap (λ b. b && bit m p) (bit_of_xor x (x / 2 ^ k) p ∙ ap (differs (bit x p)) (bit_shr x k p))

-- a word moved up by k, at a width of w
bit_up : (w x k p : ℕ) → p < w → bit ((x * 2 ^ k) % 2 ^ w) p ≡ cond (ltb p k) false (bit x (p - k))
bit_up w x k p h =
    ⊎_elim
    (λ l. bit_mod (x * 2 ^ k) w p h ∙ bit_shl_low x k p l ∙ ap (λ b. cond b false (bit x (p - k))) (sym (lt-ltb p k l)))
    (λ l.
    let back : p ≡ k + (p - k) = omega arith in
    bit_mod (x * 2 ^ k) w p h ∙ ap (bit (x * 2 ^ k)) back ∙ bit_shl x k (p - k) ∙ ap (λ b. cond b false (bit x (p - k))) (sym (le-ltb p k l)))
    (cases_lt p k)

pub bit_exchange : (w x k m p : ℕ) → p < w → are_apart k m p ≡ true
    → bit (bit_xor (bit_xor x (taken x k m)) ((taken x k m * 2 ^ k) % 2 ^ w)) p ≡ bit x (exchange_source k m p)
bit_exchange w x k m p h e =
    let t = taken x k m in
    let z = bit x (p - k) in
    let below : cond (ltb p k) false (bit t (p - k)) ≡ cond (ltb p k) false (differs (bit x p) z && bit m (p - k)) =
    ⊎_elim
    (λ l. ap (λ b. cond b false (bit t (p - k))) (lt-ltb p k l) ∙ sym (ap (λ b. cond b false (differs (bit x p) z && bit m (p - k))) (lt-ltb p k l)))
    (λ l.
    let back : k + (p - k) ≡ p = omega arith in
    ap (cond (ltb p k) false) (bit_taken x k m (p - k) ∙ ap (λ q. differs z (bit x q) && bit m (p - k)) back ∙ ap (λ b. b && bit m (p - k)) (differs_comm z (bit x p))))
    (cases_lt p k) in
    bit_of_xor (bit_xor x t) ((t * 2 ^ k) % 2 ^ w) p
    ∙ ap₂ differs (bit_of_xor x t p ∙ ap (differs (bit x p)) (bit_taken x k m p) ∙ toggled (bit m p) (bit x p) (bit x (k + p))) (bit_up w t k p h ∙ below)
    ∙ settled (bit m p) (bit m (p - k)) (ltb p k) (bit x p) (bit x (k + p)) z e
    ∙ push (bit m p) (ltb p k) (bit m (p - k)) (bit x) (k + p) p (p - k)

-- Place p of y has the bit of x at s p.
pub record From (x : ℕ) (s : ℕ → ℕ) (y : ℕ) : Type 0 where
  pub at : (p : ℕ) → p < 32 → bit y p ≡ bit x (s p)

pub unmoved : (x : ℕ) → From x (λ p. p) x
unmoved x = record { at = λ p h. refl }

-- A test holds at each place of a word, by computing.
abbrev pub EachPlace : (ℕ → Bool) → Type 0
EachPlace f = agree_below f (λ _. true) 32 ≡ true

-- One exchange more, by which no bit leaves the word.
pub exchange_from : {x : ℕ} {s : ℕ → ℕ} {y : ℕ} (k m z : ℕ) → From x s y → ((p : ℕ) → p < 32 → are_apart k m p ≡ true → bit z p ≡ bit y (exchange_source k m p))
    → EachPlace (are_apart k m) → EachPlace (λ p. ltb (exchange_source k m p) 32) → From x (λ p. s (exchange_source k m p)) z
exchange_from k m z from e clear inside =
    record {
      at = λ p h.
          let stays = ltb-true (exchange_source k m p) 32 (agree_below_at (λ p. ltb (exchange_source k m p) 32) (λ _. true) 32 p inside h) in
          e p h (agree_below_at (are_apart k m) (λ _. true) 32 p clear h) ∙ from.at (exchange_source k m p) stays;
    }

-- The places that all exchanges together take the bits from.
pub places : {x : ℕ} {s : ℕ → ℕ} {y : ℕ} (t : ℕ → ℕ) → From x s y → EachPlace (λ p. eqb (s p) (t p)) → Moved t x y
places {x} {s} t from same p h = from.at p h ∙ ap (bit x) (eqb-true (s p) (t p) (agree_below_at (λ p. eqb (s p) (t p)) (λ _. true) 32 p same h))
