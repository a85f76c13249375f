-- A number from its bits, highest first.
use Rattle.std.proofs.Common.{◌≡◌, ℕ, zero, suc, ◌+◌, ◌-◌, ◌*◌, ◌^◌, ◌<◌, ◌≤◌, Bool, true, false, List, length, get_or, take, drop, reverse, refl, ap, ◌∙◌, ap₂, suc-le-suc, add-zero, zero-add, zero-lt-suc, pow-suc, add-one, arith, lit<}
use Rattle.std.proofs.lemmas.List.{get_or_default, get_or-reverse, length-reverse, length-take, length-drop, get_or-take, get_or-drop}
use mir.Val.{bool_byte}
use Rattle.binary.specs.Bits.{bit_number, value, word}

-- what the program makes of a bit when it takes it as a number
pub bool_byte_bit : (b : Bool) → bool_byte b ≡ bit_number b
bool_byte_bit true = refl
bool_byte_bit false = refl

pub value_lt : (b : Bool) (i x : ℕ) → x < 2 ^ i → bit_number b + 2 * x < 2 ^ (i + 1)
value_lt true i x h = rw (add-one, pow-suc) (omega arith)
value_lt false i x h = rw (add-one, pow-suc) (omega arith)

-- one more bit below
word_step : (f : ℕ → Bool) (w i x : ℕ) → i < w → x ≡ word f (w - i) i → bit_number (f (w - 1 - i)) + 2 * x ≡ word f (w - (i + 1)) (i + 1)
word_step f w i x h e =
    let here : w - (i + 1) ≡ w - 1 - i = omega arith in
    let above : w - i ≡ w - 1 - i + 1 = omega arith in
    rw (here, add-one) (ap (λ y. bit_number (f (w - 1 - i)) + 2 * y) (e ∙ ap (λ m. word f m i) above))

pub word_ext : (f g : ℕ → Bool) (p q w : ℕ) → ((k : ℕ) → k < w → f (p + k) ≡ g (q + k)) → word f p w ≡ word g q w
word_ext f g p q zero h = refl
word_ext f g p q (suc w) h =
    let here = rw (add-zero p, add-zero q) at (h 0 (zero-lt-suc w)) in
    ap₂ (λ a b. bit_number a + 2 * b) here
    (word_ext f g (p + 1) (q + 1) w (λ k l. rw (← (next p k), ← (next q k)) (h (suc k) (suc-le-suc l))))
  where
    next : (p k : ℕ) → p + suc k ≡ p + 1 + k
    next p k = omega arith

pub word_lt : (f : ℕ → Bool) (p w : ℕ) → word f p w < 2 ^ w
word_lt f p zero = lit< tt
word_lt f p (suc w) = rw (add-one w) at (value_lt (f p) w (word f (p + 1) w) (word_lt f (p + 1) w))

-- one more bit below, of those that a loop takes from the last on
pub value_more : (bs : List Bool) (i x : ℕ) (b : Bool) → i < length (reverse bs) → b ≡ get_or (reverse bs) i b
    → x ≡ value bs (length bs - i) i → bit_number b + 2 * x ≡ value bs (length bs - (i + 1)) (i + 1)
value_more bs i x b h is e =
    let inside : i < length bs = rw length-reverse at h in
    let at : b ≡ get_or bs (length bs - 1 - i) false = is ∙ get_or-reverse bs i b inside ∙ get_or_default bs (length bs - 1 - i) b false (omega arith) in
    ap (λ c. bit_number c + 2 * x) at ∙ word_step (λ j. get_or bs j false) (length bs) i x inside e

-- the number of a part
pub value_part : (bs : List Bool) (p q w : ℕ) → q ≡ p + w → q ≤ length bs
    → value (take (q - p) (drop p bs)) 0 (length (take (q - p) (drop p bs))) ≡ value bs p w
value_part bs p q w e inside =
    let wide : q - p ≡ w = omega arith in
    let long : length (take w (drop p bs)) ≡ w = length-take w (drop p bs) ∙ omega (arith, length-drop p bs) in
    rw (wide, long) (
    word_ext (λ j. get_or (take w (drop p bs)) j false) (λ j. get_or bs j false) 0 p w
    (λ k l. rw (zero-add k) (get_or-take w (drop p bs) k false l ∙ get_or-drop p bs k false)))
