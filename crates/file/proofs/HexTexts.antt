-- Bytes in hexadecimal digits, written and read.
use Rattle.std.proofs.Common.{◌≡◌, ℕ, ◌+◌, ◌*◌, ◌/◌, ◌%◌, ◌<◌, true, ◌&&◌, ◌≢◌, [], ◌∷◌, length, refl, arith}
use Rattle.std.proofs.lemmas.Bool.{and_parts, and_from}
use Rattle.room.specs.Sales.{Bytes}
use Rattle.file.specs.Format.{hexadecimal_digit, hexadecimal, AreBytes}
use Rattle.file.specs.Hexadecimal.{is_hex_digit, all_hex_digits, digit_value, written_bytes}
use Rattle.file.proofs.Texts.{Without}

-- one digit
digit_is : (v : ℕ) → v < 16 → is_hex_digit (hexadecimal_digit v) ≡ true
digit_is v l = grind arith

digit_worth : (v : ℕ) → v < 16 → digit_value (hexadecimal_digit v) ≡ v
digit_worth v l = grind arith

digit_back : (c : ℕ) → is_hex_digit c ≡ true → hexadecimal_digit (digit_value c) ≡ c
digit_back c h = grind arith

digit_below : (c : ℕ) → is_hex_digit c ≡ true → digit_value c < 16
digit_below c h = grind arith

digit_other : (b c : ℕ) → b < 48 → is_hex_digit c ≡ true → c ≢ b
digit_other b c l h e = grind arith

-- two digits, as the number that they write
high : (h l : ℕ) → l < 16 → (h * 16 + l) / 16 ≡ h
high h l k = omega arith

low : (h l : ℕ) → l < 16 → (h * 16 + l) % 16 ≡ l
low h l k = omega arith

pub all_hex_digits-hexadecimal : (bs : Bytes) → AreBytes bs → all_hex_digits (hexadecimal bs) ≡ true
unfolding all_hex_digits hexadecimal
all_hex_digits-hexadecimal [] w = refl
all_hex_digits-hexadecimal (b ∷ bs) w =
    let l = w.0 in
    and_from (is_hex_digit (hexadecimal_digit (b / 16))) _ (digit_is (b / 16) (omega arith))
    (and_from (is_hex_digit (hexadecimal_digit (b % 16))) _ (digit_is (b % 16) (omega arith)) (all_hex_digits-hexadecimal bs w.1))

pub length-hexadecimal : (bs : Bytes) → length (hexadecimal bs) ≡ 2 * length bs
unfolding hexadecimal
length-hexadecimal [] = refl
length-hexadecimal (b ∷ bs) = let h = length-hexadecimal bs in omega arith

pub written_bytes-hexadecimal : (bs : Bytes) → AreBytes bs → written_bytes (hexadecimal bs) ≡ bs
unfolding written_bytes hexadecimal
written_bytes-hexadecimal [] w = refl
written_bytes-hexadecimal (b ∷ bs) w =
    let l = w.0 in
    let h = digit_worth (b / 16) (omega arith) in
    let k = digit_worth (b % 16) (omega arith) in
    let byte : digit_value (hexadecimal_digit (b / 16)) * 16 + digit_value (hexadecimal_digit (b % 16)) ≡ b = rw (h, k) (omega arith) in
    rw (byte, written_bytes-hexadecimal bs w.1) refl

pub hexadecimal-written_bytes : (ds : Bytes) → length ds % 2 ≡ 0 → all_hex_digits ds ≡ true
    → (hexadecimal (written_bytes ds) ≡ ds) × AreBytes (written_bytes ds)
unfolding all_hex_digits hexadecimal written_bytes
hexadecimal-written_bytes [] even h = (refl, tt)
hexadecimal-written_bytes (c ∷ []) even h = absurd (omega arith)
hexadecimal-written_bytes (c ∷ d ∷ ds) even h =
    let first = and_parts (is_hex_digit c) (is_hex_digit d && all_hex_digits ds) h in
    let second = and_parts (is_hex_digit d) (all_hex_digits ds) first.1 in
    let rest = hexadecimal-written_bytes ds (omega arith) second.1 in
    let u = digit_below c first.0 in
    let v = digit_below d second.0 in
    let hi : hexadecimal_digit ((digit_value c * 16 + digit_value d) / 16) ≡ c = rw (high (digit_value c) (digit_value d) v) (digit_back c first.0) in
    let lo : hexadecimal_digit ((digit_value c * 16 + digit_value d) % 16) ≡ d = rw (low (digit_value c) (digit_value d) v) (digit_back d second.0) in
    (rw (hi, lo, rest.0) refl, (omega arith, rest.1))

without_hex : (b : ℕ) → b < 48 → (ds : Bytes) → all_hex_digits ds ≡ true → Without b ds
unfolding all_hex_digits
without_hex b l [] h = tt
without_hex b l (c ∷ cs) h =
    let p = and_parts (is_hex_digit c) (all_hex_digits cs) h in
    (digit_other b c l p.0, without_hex b l cs p.1)

pub without_hexadecimal : (b : ℕ) (bs : Bytes) → b < 48 → AreBytes bs → Without b (hexadecimal bs)
without_hexadecimal b bs l w = without_hex b l (hexadecimal bs) (all_hex_digits-hexadecimal bs w)
