-- Entries that rise, inserted one after another into a list that is empty at first, fill its places in their order.
use Rattle.std.proofs.Common.{◌≡◌, ℕ, ◌+◌, ◌-◌, ◌<◌, ◌≤◌, List, [], ◌∷◌, ◌++◌, length, get_or, take, drop, set, Ok, Ordering, Less, sym, refl, ap, ◌∙◌, arith}
use Rattle.std.proofs.lemmas.List.{append_assoc, drop-drop, get_or_append_left, get_or_read, get_or-take, length-append, length-drop, length-take-le, set-append_right, take_more}
use Rattle.list.specs.Order.{Rising}
use Rattle.list.specs.Insertion.{answer_of, count_after, places_after}
use Rattle.list.proofs.Last.{last_not_refused, last_placed}
use Rattle.list.proofs.Neighbours.{rising_at}

first_set : {X : Type 0} (ys : List X) (x : X) → 0 < length ys → set ys 0 x ≡ x ∷ drop 1 ys
first_set [] x h = absurd (omega arith)
first_set (y ∷ ys) x h = refl

-- es are the entries, of which i stand in the places ps, qs what the places held at first, and x is the next entry
module _ {X : Type 0} (order : X → X → Ordering) (es qs ps : List X) (n i : ℕ) (x : X) (rises : Rising order es) (fits : length es ≤ length qs) (l : i < length es) (counted : n ≡ i) (so_far : ps ≡ take i es ++ drop i qs) (read : x ≡ get_or es i x) where
  length_front : length (take i es) ≡ i
  length_front = length-take-le i es (omega arith)

  room : n < length ps
  room = let a = ap length so_far in let b = length-append (take i es) (drop i qs) in let c = length_front in let d = length-drop i qs in omega arith

  before : (k : ℕ) (d : X) → k < n → order (get_or ps k d) x ≡ Less
  before k d h =
      let h' : k < i = omega arith in
      let w = length_front in
      let a : get_or ps k d ≡ get_or es k d = ap (λ z. get_or z k d) so_far ∙ get_or_append_left (take i es) (drop i qs) d k (omega arith) ∙ get_or-take i es k d h' in
      let b : x ≡ get_or es i d = get_or_read es i x l read d in
      ap (λ z. order z x) a ∙ ap (order (get_or es k d)) b ∙ rising_at order es rises k i d h' l

  pub next_answer : answer_of order x ps n ≡ Ok (i + 1)
  next_answer = rw (last_not_refused order x ps n room before) (ap (λ k. Ok (k + 1)) counted)

  pub next_count : count_after order x ps n ≡ i + 1
  next_count = rw (last_not_refused order x ps n room before) (ap (λ k. k + 1) counted)

  pub next_places : places_after order x ps n ≡ take (i + 1) es ++ drop (i + 1) qs
  next_places =
      let z : set (drop i qs) (n - i) x ≡ x ∷ drop (i + 1) qs =
      ap (λ k. set (drop i qs) k x) (omega arith) ∙ first_set (drop i qs) x (let d = length-drop i qs in omega arith) ∙ ap (λ ys. x ∷ ys) (drop-drop 1 i qs) in
      last_placed order x ps n room before ∙ ap (λ z. set z n x) so_far ∙ set-append_right (take i es) (drop i qs) i n x length_front (omega arith) ∙ ap (λ ys. take i es ++ ys) z ∙ sym (append_assoc (take i es) (x ∷ []) (drop (i + 1) qs)) ∙ ap (λ ys. ys ++ drop (i + 1) qs) (ap (λ y. take i es ++ y ∷ []) read ∙ sym (take_more es i x l))
