-- The counter on words.
use Rattle.std.proofs.Common.{◌≡◌, ℕ, ◌+◌, ◌-◌, ◌*◌, ◌/◌, ◌%◌, ◌^◌, ◌<◌, ◌≤◌, Bool, true, false, cond, not, ltb, List, [], ◌∷◌, length, sym, refl, ap, ◌∙◌, ap₂, ⊎_elim, zero-add, arith}
use Rattle.std.specs.Int.{reverse_bits_onto}
use Rattle.std.proofs.lemmas.List.FromFn.{get_or-map-range_with_len}
use Rattle.std.proofs.lemmas.Nat.{div_below, mod_below, div-add-mod'}
use Rattle.std.proofs.lemmas.Bool.{cases_lt, lt-ltb, le-ltb}
use Rattle.binary.specs.Bits.{bit, differs}
use Rattle.engine.specs.Spongent.{counter_bit, bit_with_counter, with_counter}
use Rattle.binary.proofs.RotationLaws.{bit_shl, bit_shl_low, bit_mod, bit_past}
use Rattle.circuit.specs.Planes.{Bits, word_bit, Holds}
use Rattle.circuit.proofs.Decide.{all_of, each_of}
use Rattle.circuit.proofs.Fours.{by_four}

-- the reversed counter, computed for each of 256
same : (a b : Bool) → not (differs a b) ≡ true → a ≡ b
same true true e = refl
same true false e = sym e
same false true e = e
same false false e = refl

pub reversed_bit : (c k : ℕ) → c < 256 → k < 8 → bit (reverse_bits_onto 8 c 0) k ≡ bit c (7 - k)
unfolding reverse_bits_onto
reversed_bit c k hc hk =
    same (bit (reverse_bits_onto 8 c 0) k) (bit c (7 - k))
    (each_of 8 (λ k. not (differs (bit (reverse_bits_onto 8 c 0) k) (bit c (7 - k))))
    (each_of 256 (λ c. all_of 8 (λ k. not (differs (bit (reverse_bits_onto 8 c 0) k) (bit c (7 - k))))) refl c hc) k hk)

keeps : (b : Bool) → differs b false ≡ b
keeps true = refl
keeps false = refl

alone : (b : Bool) → differs false b ≡ b
alone true = refl
alone false = refl

-- what the rule adds, where both tests are known
added_is : (b c j : ℕ) (s t : Bool) → ltb j 8 ≡ s → ltb j (b - 8) ≡ t → counter_bit b c j ≡ differs (cond s (bit c j) false) (cond t false (bit c (b - 1 - j)))
added_is b c j s t p q = ap₂ (λ x y. differs (cond x (bit c j) false) (cond y false (bit c (b - 1 - j)))) p q

module _ (m c : ℕ) (low : 8 ≤ m) (small : m ≤ 64) (hc : c < 256) where
  -- the reversed counter in the last byte of a word of m bits
  abbrev last : ℕ
  last = (reverse_bits_onto 8 c 0 * 2 ^ (m - 8)) % 2 ^ 64

  first_adds : (k : ℕ) → k < m → bit c k ≡ counter_bit (m * 4) c k
  first_adds k h =
      let far = lt-ltb k (m * 4 - 8) (omega arith) in
      ⊎_elim
      (λ l. sym (added_is (m * 4) c k true true (lt-ltb k 8 l) far ∙ keeps (bit c k)))
      (λ l. bit_past c 8 k (omega arith) l ∙ sym (added_is (m * 4) c k false true (le-ltb k 8 l) far))
      (cases_lt k 8)

  middle_adds : (j : ℕ) → 8 ≤ j → j < m * 4 - 8 → counter_bit (m * 4) c j ≡ false
  middle_adds j l h = added_is (m * 4) c j false true (le-ltb j 8 l) (lt-ltb j (m * 4 - 8) h)

  last_adds : (k : ℕ) → k < m → bit last k ≡ counter_bit (m * 4) c (3 * m + k)
  last_adds k h =
      let j = 3 * m + k in
      let s = m - 8 in
      let r = reverse_bits_onto 8 c 0 in
      let cut = bit_mod (r * 2 ^ s) 64 k (omega arith) in
      ⊎_elim
      (λ l. cut ∙ bit_shl_low r s k l ∙ sym (middle_adds j (omega arith) (omega arith)))
      (λ l.
      let t = k - s in
      let back : k ≡ s + t = omega arith in
      let same : 7 - t ≡ m * 4 - 1 - j = omega arith in
      cut ∙ ap (bit (r * 2 ^ s)) back ∙ bit_shl r s t ∙ reversed_bit c t hc (omega arith) ∙ ap (bit c) same
      ∙ sym (added_is (m * 4) c j false false (le-ltb j 8 (omega arith)) (le-ltb j (m * 4 - 8) (omega arith)) ∙ alone (bit c (m * 4 - 1 - j))))
      (cases_lt k s)

  pub counter_holds : (q₀ q₁ q₂ q₃ r₀ r₃ : Bits) (bs : List Bool) → length bs ≡ m * 4
      → ((k : ℕ) → k < 64 → r₀ k ≡ differs (q₀ k) (bit c k)) → ((k : ℕ) → k < 64 → r₃ k ≡ differs (q₃ k) (bit last k))
      → Holds m (q₀ ∷ q₁ ∷ q₂ ∷ q₃ ∷ []) bs → Holds m (r₀ ∷ q₁ ∷ q₂ ∷ r₃ ∷ []) (with_counter c bs)
  unfolding with_counter
  counter_holds q₀ q₁ q₂ q₃ r₀ r₃ bs len e₀ e₃ h j inside =
      let k = j % m in
      let some : 0 < m = omega arith in
      let hk : k < m = mod_below j m some in
      let plain : (q : Bits) (n : ℕ) → 8 ≤ n → n < m * 4 - 8 → q k ≡ differs (q k) (counter_bit (m * 4) c n) =
      λ q n l u. sym (ap (differs (q k)) (middle_adds n l u) ∙ keeps (q k)) in
      let zeroth : k ≡ 0 * m + k = omega arith in
      by_four (λ t. word_bit (r₀ ∷ q₁ ∷ q₂ ∷ r₃ ∷ []) t k ≡ differs (word_bit (q₀ ∷ q₁ ∷ q₂ ∷ q₃ ∷ []) t k) (counter_bit (m * 4) c (t * m + k)))
      (e₀ k (omega arith) ∙ ap (differs (q₀ k)) (first_adds k hk ∙ ap (counter_bit (m * 4) c) zeroth))
      (plain q₁ (1 * m + k) (omega arith) (omega arith))
      (plain q₂ (2 * m + k) (omega arith) (omega arith))
      (e₃ k (omega arith) ∙ ap (differs (q₃ k)) (last_adds k hk))
      (j / m) (div_below j m 4 some (omega arith))
      ∙ ap₂ differs (h j inside) (ap (counter_bit (m * 4) c) (div-add-mod' j m) ∙ ap (λ b. counter_bit b c j) (sym len))
      ∙ sym (get_or-map-range_with_len (bit_with_counter c bs) 0 (length bs) j j false (omega arith) (zero-add j))
