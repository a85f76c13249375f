-- Each layer on words does the layer on the state of each of the four blocks.
use Rattle.std.proofs.Common.{◌≡◌, ℕ, ◌+◌, ◌-◌, ◌*◌, ◌/◌, ◌%◌, ◌<◌, Bool, false, List, length, get_or, sym, ap, ◌∙◌, ap₂, arith, lit<}
use Rattle.std.proofs.lemmas.List.FromFn.{get_or-map-range_with_len, length-map-range_with_len}
use Rattle.std.proofs.lemmas.Nat.{mod_below}
use Rattle.binary.specs.Bits.{bit, list_from_fn}
use Rattle.engine.specs.Keccak.{lane_bit, by_coordinates, column, offsets, theta_at, rho_at, pi_at, chi_at, theta, rho, pi, chi}
use Rattle.binary.proofs.WordLaws.{Has, and_has, xor_has, not_has}
use Rattle.binary.proofs.RotationLaws.{turned, turned_lt, bit_turned}
use Rattle.interleaved.specs.Words.{lane, by_lane, words, turn, w_column, w_theta, w_rho, w_pi, w_chi}

-- The words hold the state s as that of block i.
pub record Lane (i : ℕ) (ws : List ℕ) (s : List Bool) : Type 0 where
  pub long : length s ≡ 200
  pub at_lane : (x y z : ℕ) → x < 5 → y < 5 → z < 8 → Has 32 (4 * z + i) (lane ws x y) (lane_bit s x y z)

words_at : (G : ℕ → ℕ → ℕ) (x y : ℕ) → x < 5 → y < 5 → lane (words G) x y ≡ G x y
words_at G x y hx hy =
    get_or-map-range_with_len (by_lane G) 0 25 (5 * y + x) (5 * y + x) 0 (omega arith) (omega arith) ∙ ap₂ G (omega arith) (omega arith)

-- a state made by a rule for each of its bits
pub state_at : (n : ℕ) (F : ℕ → ℕ → ℕ → Bool) (x y z : ℕ) → n ≡ 200 → x < 5 → y < 5 → z < 8 → lane_bit (list_from_fn n (by_coordinates F)) x y z ≡ F x y z
state_at n F x y z all hx hy hz =
    let j = 8 * (5 * y + x) + z in
    let l : j / 8 ≡ 5 * y + x = omega arith in
    let ex : (5 * y + x) % 5 ≡ x = omega arith in
    let ey : (5 * y + x) / 5 ≡ y = omega arith in
    let ez : j % 8 ≡ z = omega arith in
    get_or-map-range_with_len (by_coordinates F) 0 n j j false (omega arith) (omega arith)
    ∙ ap₂ (λ m n. F (m % 5) (m / 5) n) l ez ∙ ap₂ (λ m n. F m n z) ex ey

step_lane : (i n : ℕ) (G : ℕ → ℕ → ℕ) (F : ℕ → ℕ → ℕ → Bool) → n ≡ 200
    → ((x y z : ℕ) → x < 5 → y < 5 → z < 8 → Has 32 (4 * z + i) (G x y) (F x y z)) → Lane i (words G) (list_from_fn n (by_coordinates F))
step_lane i n G F all h =
    record {
      long = length-map-range_with_len (by_coordinates F) 0 n ∙ all;
      at_lane = λ x y z hx hy hz.
          let e = words_at G x y hx hy in
          let f = state_at n F x y z all hx hy hz in
          let p = h x y z hx hy hz in
          record { small = rw e p.small; is = ap (λ n. bit n (4 * z + i)) e ∙ p.is ∙ sym f };
    }

-- turned by 4 r places: by r places in each block
turn_has : {z i n : ℕ} {b : Bool} (r : ℕ) → r < 8 → z < 8 → i < 4 → Has 32 (4 * ((z + (8 - r)) % 8) + i) n b → Has 32 (4 * z + i) (turn (4 * r) n) b
turn_has {z} {i} {n} {b} r hr hz hi p =
    let e : 4 * r % 32 ≡ 4 * r = omega arith in
    let from : (4 * z + i + (32 - 4 * r)) % 32 ≡ 4 * ((z + (8 - r)) % 8) + i = omega arith in
    record {
      small = turned_lt 32 (4 * r % 32) n p.small;
      is = ap (λ m. bit (turned 32 m n) (4 * z + i)) e ∙ bit_turned 32 (4 * r) n (4 * z + i) p.small (omega arith) (omega arith) ∙ ap (bit n) from ∙ p.is;
    }

module _ {i : ℕ} (hi : i < 4) (ws : List ℕ) (s : List Bool) (l : Lane i ws s) where
  h : (x y z : ℕ) → x < 5 → y < 5 → z < 8 → Has 32 (4 * z + i) (lane ws x y) (lane_bit s x y z)
  h = l.at_lane

  col : (x z : ℕ) → x < 5 → z < 8 → Has 32 (4 * z + i) (w_column ws x) (column s x z)
  col x z hx hz =
      xor_has (xor_has (xor_has (xor_has (h x 0 z hx (lit< tt) hz) (h x 1 z hx (lit< tt) hz)) (h x 2 z hx (lit< tt) hz)) (h x 3 z hx (lit< tt) hz)) (h x 4 z hx (lit< tt) hz)

  pub theta_lane : Lane i (words (w_theta ws)) (theta s)
  unfolding theta
  theta_lane = step_lane i (length s) (w_theta ws) (theta_at s) l.long (λ x y z hx hy hz.
      xor_has (h x y z hx hy hz) (xor_has (col ((x + 4) % 5) z (omega arith) hz) (turn_has 1 (lit< tt) hz hi (col ((x + 1) % 5) ((z + 7) % 8) (omega arith) (omega arith)))))

  pub rho_lane : Lane i (words (w_rho ws)) (rho s)
  unfolding rho
  rho_lane = step_lane i (length s) (w_rho ws) (rho_at s) l.long (λ x y z hx hy hz.
      let t = get_or offsets (5 * y + x) 0 % 8 in
      turn_has t (mod_below (get_or offsets (5 * y + x) 0) 8 (lit< tt)) hz hi (h x y ((z + (8 - t)) % 8) hx hy (mod_below (z + (8 - t)) 8 (lit< tt))))

  pub pi_lane : Lane i (words (w_pi ws)) (pi s)
  unfolding pi
  pi_lane = step_lane i (length s) (w_pi ws) (pi_at s) l.long (λ x y z hx hy hz. h ((x + 3 * y) % 5) x z (omega arith) hx hz)

  pub chi_lane : Lane i (words (w_chi ws)) (chi s)
  unfolding chi
  chi_lane = step_lane i (length s) (w_chi ws) (chi_at s) l.long (λ x y z hx hy hz.
      xor_has (h x y z hx hy hz) (and_has (not_has (omega arith) (h ((x + 1) % 5) y z (omega arith) hy hz)) (h ((x + 2) % 5) y z (omega arith) hy hz)))
