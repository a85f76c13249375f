-- Numbers in their decimal digits, written and read.
use Rattle.std.proofs.Common.{◌≡◌, ℕ, ◌^◌, ◌<◌, ◌≤◌, Bool, true, false, cond, not, ◌&&◌, ◌||◌, ltb, leb, eqb, [], ◌∷◌, length, get_or, Some, None, decimal, sym, refl, ap, ◌∙◌, inl, inr, arith}
use Rattle.std.proofs.lemmas.Bool.{and_parts, and_from, or_cases, not-true, leb-true, le-leb, lt-ltb, ltb-true, eqb-true, eqb-false, eq-eqb, cases_lt}
use Rattle.std.proofs.lemmas.Fmt.{digits_decimal, digits_value-decimal, decimal-digits_value, decimal_nonempty, first_decimal, decimal_digit}
use Rattle.std.proofs.lemmas.Str.Parse.{IsDigitsTest, FoldsDigits, IsNumeralModel, numerals_by_fold}
use Rattle.room.specs.Sales.{Bytes}
use Rattle.file.specs.Numbers.{is_digit, all_digits, value_after, value_of, is_well_led, number_of}
use Rattle.file.proofs.Texts.{Without}

digits_test : IsDigitsTest (λ ds. all_digits ds ≡ true)
unfolding all_digits
digits_test = record {
  empty = refl;
  parts = λ c cs h.
      let p = and_parts (is_digit c) (all_digits cs) h in
      let q = and_parts (leb 48 c) (leb c 57) p.0 in
      ((leb-true 48 c q.0, leb-true c 57 q.1), p.1);
  more = λ c cs r h. and_from (is_digit c) (all_digits cs) (and_from (leb 48 c) (leb c 57) (le-leb 48 c r.0) (le-leb c 57 r.1)) h;
}

digits_fold : FoldsDigits value_after
unfolding value_after
digits_fold = record { empty = λ n. refl; more = λ n c cs r. refl }

own : IsNumeralModel (λ ds. all_digits ds ≡ true) (value_after 0)
own = numerals_by_fold (λ ds. all_digits ds ≡ true) digits_test value_after digits_fold

-- no digit is another byte
without_digits : (b : ℕ) → b < 48 → (ds : Bytes) → all_digits ds ≡ true → Without b ds
unfolding all_digits
without_digits b l [] h = tt
without_digits b l (c ∷ cs) h =
    let p = and_parts (is_digit c) (all_digits cs) h in
    let q = leb-true 48 c (and_parts (leb 48 c) (leb c 57) p.0).0 in
    (λ e. (omega arith), without_digits b l cs p.1)

pub without_decimal : (b n : ℕ) → b < 48 → n < 2 ^ 32 → Without b (decimal n)
without_decimal b n l s = without_digits b l (decimal n) (digits_decimal own n (omega arith))

led_by : (ds : Bytes) → 0 < length ds → (get_or ds 0 0 ≡ 48 → length ds ≡ 1) → (t : Bool) → eqb (get_or ds 0 0) 48 ≡ t
    → (not t || eqb (length ds) 1) ≡ true
led_by ds l h true e = eq-eqb (length ds) 1 (h (eqb-true (get_or ds 0 0) 48 e))
led_by ds l h false e = refl

led_decimal : (n : ℕ) → n < 2 ^ 32 → get_or (decimal n) 0 0 ≡ 48 → length (decimal n) ≡ 1
led_decimal n s e = elim (cases_lt 0 n) [
  | inl l ↦ let f = first_decimal n l (omega arith) in absurd (omega arith)
  | inr z ↦ ap length (decimal_digit n (omega arith))
]

pub number_of-decimal : (n : ℕ) → n < 2 ^ 32 → number_of (decimal n) ≡ Some n
unfolding number_of value_of
number_of-decimal n s =
    let l = decimal_nonempty n (omega arith) in
    let v : value_after 0 (decimal n) ≡ n = digits_value-decimal own n (omega arith) in
    let led : is_well_led (decimal n) ≡ true =
    and_from (ltb 0 (length (decimal n))) _ (lt-ltb 0 (length (decimal n)) l) (led_by (decimal n) l (led_decimal n s) (eqb (get_or (decimal n) 0 0) 48) refl) in
    let all : all_digits (decimal n) ≡ true = digits_decimal own n (omega arith) in
    let small : leb n 4294967295 ≡ true = le-leb n 4294967295 (omega arith) in
    rw (led, all, v, small) refl

-- what the tests let through
small_back : (v n : ℕ) (t : Bool) → leb v 4294967295 ≡ t → cond t (Some v) None ≡ Some n → (v ≤ 4294967295) × (v ≡ n)
small_back v n true h e = (leb-true v 4294967295 h, cc)
small_back v n false h e = absurd (let z : ◌≡◌ {A = ℕ} 0 1 = cc in omega arith)

value_back : (led all : Bool) (v n : ℕ) → cond led (cond (all && leb v 4294967295) (Some v) None) None ≡ Some n
    → (led ≡ true) × (all ≡ true) × (v ≤ 4294967295) × (v ≡ n)
value_back false all v n e = absurd (let z : ◌≡◌ {A = ℕ} 0 1 = cc in omega arith)
value_back true false v n e = absurd (let z : ◌≡◌ {A = ℕ} 0 1 = cc in omega arith)
value_back true true v n e = let k = small_back v n (leb v 4294967295) refl e in (refl, refl, k.0, k.1)

one_zero : (a n : ℕ) → (not (eqb a 48) || eqb n 1) ≡ true → a ≡ 48 → n ≡ 1
one_zero a n h e = elim (or_cases (not (eqb a 48)) (eqb n 1) h) [
  | inl t ↦ absurd (eqb-false a 48 (not-true (eqb a 48) t) e)
  | inr t ↦ eqb-true n 1 t
]

pub decimal-number_of : (ds : Bytes) (n : ℕ) → number_of ds ≡ Some n → (ds ≡ decimal n) × (n < 2 ^ 32)
unfolding number_of value_of
decimal-number_of ds n e =
    let k = value_back (is_well_led ds) (all_digits ds) (value_after 0 ds) n e in
    let led = and_parts (ltb 0 (length ds)) _ k.0 in
    let back : decimal (value_after 0 ds) ≡ ds =
    decimal-digits_value own ds k.1 (ltb-true 0 (length ds) led.0) (one_zero (get_or ds 0 0) (length ds) led.1) (let s = k.2 in omega arith) in
    (sym back ∙ ap decimal k.3, (let s = k.2 in let v = k.3 in omega arith))
