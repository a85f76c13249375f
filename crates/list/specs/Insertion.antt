-- What inserting an entry does: when it is refused, and what the places of the list hold afterwards.
use Rattle.std.specs.Prelude.{ℕ, ◌+◌, Bool, false, if◌then◌else◌, ◌||◌, List, [], ◌∷◌, ◌++◌, length, take, drop, Some, None, Ok, Err, Option, Result, nat_lt}
use Rattle.std.specs.Borrow.{MutBor}
use Rattle.std.specs.declared.cmp.Ordering.{Ordering}
use Rattle.std.specs.Ordering.{is_eq, is_lt}
use Rattle.std.specs.List.{prefix_len}
use Rattle.list.specs.declared.ordered.Ordered.{Ordered}
use Rattle.list.specs.declared.faults.ListFault.{ListFault}
use Rattle.list.specs.declared.faults.ListFault.TheVariants.{EqualEntry, Full}

-- The list that has no entries yet, over these places.
abbrev pub empty_over : {X : Type 0} → MutBor (List X) → Ordered X
empty_over places = record { places = places; count = 0 }

-- The entries of a list: as many of its first places as it counts, or all of them if it counts more.
abbrev pub entries_of : {X : Type 0} → Ordered X → List X
entries_of list = take list.count list.places.now

-- Whether one of the entries is equal in order to e.
unfoldable pub has_equal : {X : Type 0} → (X → X → Ordering) → X → List X → Bool
has_equal order e [] = false
has_equal order e (x ∷ xs) = is_eq (order x e) || has_equal order e xs

-- How many entries at the front of the list come before e.
unfoldable pub count_ahead : {X : Type 0} → (X → X → Ordering) → X → List X → ℕ
count_ahead order e xs = prefix_len (λ x. is_lt (order x e)) xs

-- The list with e in it: behind the entries that are ahead of it, and in front of the others.
unfoldable pub list_with : {X : Type 0} → (X → X → Ordering) → X → List X → List X
list_with order e xs = take (count_ahead order e xs) xs ++ (e ∷ drop (count_ahead order e xs) xs)

-- The checks of an insertion, where the first n places hold the entries: an entry equal in order to e is refused first, then a full list.
abbrev pub refusal : {X : Type 0} → (X → X → Ordering) → X → List X → ℕ → Option ListFault
refusal order e places n =
    if has_equal order e (take n places) then Some EqualEntry else if nat_lt n (length places) then None else Some Full

-- What comes of these checks: the first value if they refuse nothing, else the second by the reason.
abbrev pub unless_refused : {A : Type 0} → Option ListFault → A → (ListFault → A) → A
unless_refused None granted refused = granted
unless_refused (Some why) granted refused = refused why

-- What an insertion answers: the new count, or why it is refused.
abbrev pub answer_of : {X : Type 0} → (X → X → Ordering) → X → List X → ℕ → Result ℕ ListFault
answer_of order e places n = unless_refused (refusal order e places n) (Ok (n + 1)) Err

-- How many entries there are afterwards: one more, or as many as before if it is refused.
abbrev pub count_after : {X : Type 0} → (X → X → Ordering) → X → List X → ℕ → ℕ
count_after order e places n = unless_refused (refusal order e places n) (n + 1) (λ why. n)

-- What the places hold afterwards: the entries with e among them and then what lay behind, or all as before if it is refused.
abbrev pub places_after : {X : Type 0} → (X → X → Ordering) → X → List X → ℕ → List X
places_after order e places n =
    unless_refused (refusal order e places n) (list_with order e (take n places) ++ drop (n + 1) places) (λ why. places)
