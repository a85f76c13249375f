-- When a call is granted, and what it leaves.
use Rattle.std.proofs.Common.{◌≡◌, ℕ, ◌*◌, Bool, true, false, cond, ◌↔◌, List, length, Ok, Err, Result, ◌==◌, sym, refl, ◌∙◌, eq-eqb}
use Rattle.std.proofs.lemmas.Bool.{eqb-true, cond-false}
use Rattle.fault.specs.Checks.{is_granted}
use Rattle.engine.specs.Permutation.{block_size, permutation, each}
use Rattle.engine.specs.Calls.{answer_by_length, place_by_length}
use Rattle.engine.specs.Theorems.{CallsAreGrantedByLength}
use Rattle.engine.specs.declared.faults.EngineFault.{EngineFault}
use Rattle.engine.specs.declared.faults.EngineFault.TheVariants.{BlockLength}

pub replaced_granted : (m : ℕ) (f : List ℕ → List ℕ) (xs : List ℕ) → length xs ≡ m → place_by_length m f xs ≡ f xs
replaced_granted m f xs h = rw (eq-eqb (length xs) m h)

tested : (b : Bool) → (let r : Result (Unit {0}) EngineFault = cond b (Ok tt) (Err BlockLength) in is_granted r ≡ b)
tested true = refl
tested false = refl

granted_by_length : (m : ℕ) (xs : List ℕ) → (is_granted (answer_by_length m xs) ≡ true) ↔ (length xs ≡ m)
granted_by_length m xs =
    let same = tested (length xs == m) in
    ((λ e. eqb-true (length xs) m (sym same ∙ e)), (λ e. same ∙ eq-eqb (length xs) m e))

replaced_where_granted : (m : ℕ) (f : List ℕ → List ℕ) (xs : List ℕ) → is_granted (answer_by_length m xs) ≡ true → place_by_length m f xs ≡ f xs
replaced_where_granted m f xs e = replaced_granted m f xs ((granted_by_length m xs).0 e)

left_where_refused : (m : ℕ) (f : List ℕ → List ℕ) (xs : List ℕ) → is_granted (answer_by_length m xs) ≡ false → place_by_length m f xs ≡ xs
left_where_refused m f xs e = cond-false (length xs == m) (f xs) xs (sym (tested (length xs == m)) ∙ e)

pub granted_by_lengths : CallsAreGrantedByLength
granted_by_lengths =
    record {
      one_is_granted_exactly_where_there_is_one_block = λ v xs. granted_by_length (block_size v) xs;
      four_is_granted_exactly_where_there_are_four = λ v xs. granted_by_length (4 * block_size v) xs;
      one_permutes_the_block = λ v xs e. replaced_where_granted (block_size v) (permutation v) xs e;
      four_permutes_each = λ v xs e. replaced_where_granted (4 * block_size v) (each (permutation v) (block_size v) 4) xs e;
      a_refused_call_leaves_the_place = λ v xs.
          ((λ e. left_where_refused (block_size v) (permutation v) xs e), (λ e. left_where_refused (4 * block_size v) (each (permutation v) (block_size v) 4) xs e));
    }
