-- The groups of lines, and what is read of them, step by step.
use Rattle.std.proofs.Common.{◌≡◌, ℕ, suc, ◌<◌, ◌≤◌, Bool, false, eqb, ltb, List, [], ◌∷◌, ◌++◌, length, map, filter, Some, None, Option, Result, inl, inr, refl, sym, ap, ◌∙◌, arith, append-nil}
use denote.Ref.{Bor}
use Rattle.engine.specs.declared.variants.Variant.{Variant}
use Rattle.std.specs.List.{slice_split, onto_first, filter_map, cons_option}
use Rattle.std.specs.Option.{option_to_list}
use Rattle.std.specs.Str.Lines.{lines}
use Rattle.std.proofs.lemmas.List.{map-append}
use Rattle.std.proofs.lemmas.List.Elements.{filter-append, filter_map-append}
use Rattle.std.proofs.lemmas.Bool.{cases_Bool, cond-true, cond-false, lt-ltb, le-ltb}
use denote.Param.Members.{Mut}
use Rattle.std.specs.Fn.{CalledAt}
use Rattle.std.specs.Iterator.{Yields}
use Rattle.std.specs.Slice.Iter.{split_steps, split_rest, split_done, split_callee}
use Rattle.std.proofs.lemmas.Iterator.Consumers.{YieldsList-at, YieldsList-end}
use Rattle.std.proofs.lemmas.Iterator.Splits.{YieldsList-from_slice_split}
use Rattle.vectors.specs.KnownAnswers.{KnownAnswer}
use Rattle.vectors.specs.Layout.{answer_of_lines, line_groups}
use Rattle.vectors.specs.Views.{texts}
use Rattle.vectors.specs.declared.records.RecordFault.{RecordFault}

-- What is cut of lent elements is cut of the elements.
map-onto_first : {X Y : Type 0} (f : X → Y) (x : X) (parts : List (List X)) → map (map f) (onto_first x parts) ≡ onto_first (f x) (map (map f) parts)
map-onto_first f x [] = refl
map-onto_first f x (part ∷ parts) = refl

pub map-slice_split : {X Y : Type 0} (f : X → Y) (p : Y → Bool) (xs : List X) → map (map f) (slice_split (λ x. p (f x)) xs) ≡ slice_split p (map f xs)
map-slice_split f p [] = refl
map-slice_split f p (x ∷ xs) =
    let rest = map-slice_split f p xs in
    elim (cases_Bool (p (f x))) [
      | inl cut ↦ rw cut (ap (λ parts. [] ∷ parts) rest)
      | inr kept ↦ rw kept (map-onto_first f x (slice_split (λ x. p (f x)) xs) ∙ ap (onto_first (f x)) rest)
    ]

-- At the end of a loop over what is cut of a slice, all of it was yielded.
pub split_end : {A F : Type 0} {g : Mut F (Bor A × Unit {0}) Bool} (s t u s0 : _) (r : Option (Bor (List A))) (yielded : List (Bor (List A))) (p : A → Bool) (f : F) (xs : List A)
    → Yields (split_steps g) s yielded t → r ≡ None → split_steps g t r u → s ≡ s0 → split_rest s0 ≡ xs → split_done s0 ≡ false → split_callee s0 ≡ f
    → ((x : A) (b : Bool) (q : F) → CalledAt g f x b q → (q ≡ f) × (b ≡ p x)) → map (λ (part : Bor (List A)). part.now) yielded ≡ slice_split p xs
split_end {g} s t u s0 r yielded p f xs sofar none step same rest done callee test =
    (YieldsList-end (YieldsList-at same (YieldsList-from_slice_split g p xs rest done callee test)) yielded t sofar r u none step).0

-- A group of lent lines.
abbrev pub Group : Type 0
Group = Bor (List (Bor (List ℕ)))

map-map : {X Y Z : Type 0} (f : X → Y) (h : Y → Z) (xs : List X) → map (λ x. h (f x)) xs ≡ map h (map f xs)
map-map f h [] = refl
map-map f h (x ∷ xs) = ap (λ ys. h (f x) ∷ ys) (map-map f h xs)

-- What the groups that were yielded say.
abbrev pub said_by : Variant → List Group → List (Result KnownAnswer RecordFault)
said_by v groups = map (answer_of_lines v) (filter (λ ls. ltb 0 (length ls)) (map (λ (group : Group). texts group.now) groups))

-- Where all groups of a text were yielded, they say what the text does.
pub said_by-all : (v : Variant) (text : List ℕ) (items : List (Bor (List ℕ))) (yielded : List Group) → texts items ≡ lines text
    → map (λ (group : Group). group.now) yielded ≡ slice_split (λ (l : Bor (List ℕ)). eqb (length l.now) 0) items
    → said_by v yielded ≡ map (answer_of_lines v) (line_groups (lines text))
said_by-all v text items yielded whole all =
    ap (λ gs. map (answer_of_lines v) (filter (λ (ls : List (List ℕ)). ltb 0 (length ls)) gs))
    (map-map (λ (group : Group). group.now) texts yielded
    ∙ ap (map texts) all
    ∙ map-slice_split (λ (l : Bor (List ℕ)). l.now) (λ l. eqb (length l) 0) items
    ∙ ap (slice_split (λ l. eqb (length l) 0)) whole)

said_by-append : (v : Variant) (gs : List Group) (g : Group) → said_by v (gs ++ g ∷ []) ≡ said_by v gs ++ said_by v (g ∷ [])
said_by-append v gs g =
    ap (λ ts. map (answer_of_lines v) (filter (λ (ls : List (List ℕ)). ltb 0 (length ls)) ts)) (map-append (λ (group : Group). texts group.now) gs (g ∷ []))
    ∙ ap (map (answer_of_lines v)) (filter-append (λ (ls : List (List ℕ)). ltb 0 (length ls)) (map (λ (group : Group). texts group.now) gs) (texts g.now ∷ []))
    ∙ map-append (answer_of_lines v) (filter (λ (ls : List (List ℕ)). ltb 0 (length ls)) (map (λ (group : Group). texts group.now) gs)) (filter (λ (ls : List (List ℕ)). ltb 0 (length ls)) (texts g.now ∷ []))

length-texts : (ls : List (Bor (List ℕ))) → length (texts ls) ≡ length ls
length-texts [] = refl
length-texts (l ∷ ls) = ap suc (length-texts ls)

said_by-one : (v : Variant) (g : Group) → 0 < length g.now → said_by v (g ∷ []) ≡ answer_of_lines v (texts g.now) ∷ []
said_by-one v g some =
    ap (map (answer_of_lines v)) (cond-true (ltb 0 (length (texts g.now))) (texts g.now ∷ []) [] (lt-ltb 0 (length (texts g.now)) (omega (arith, length-texts g.now))))

said_by-none : (v : Variant) (g : Group) → length g.now ≤ 0 → said_by v (g ∷ []) ≡ []
said_by-none v g none =
    ap (map (answer_of_lines v)) (cond-false (ltb 0 (length (texts g.now))) (texts g.now ∷ []) [] (le-ltb 0 (length (texts g.now)) (omega (arith, length-texts g.now))))

-- A turn of the loop over the groups, for what h takes of what each says.
module _ {Y : Type 0} (h : Result KnownAnswer RecordFault → Option Y) (v : Variant) (old new : List Y) (gs : List Group) (g : Group) (sofar : old ≡ filter_map h (said_by v gs)) where
  turn : filter_map h (said_by v (gs ++ g ∷ [])) ≡ old ++ filter_map h (said_by v (g ∷ []))
  turn =
      ap (filter_map h) (said_by-append v gs g) ∙ filter_map-append h (said_by v gs) (said_by v (g ∷ []))
      ∙ ap (λ o. o ++ filter_map h (said_by v (g ∷ []))) (sym sofar)

  filter_map-one : (r : Result KnownAnswer RecordFault) → filter_map h (r ∷ []) ≡ option_to_list (h r)
  filter_map-one r = elim (h r) as (λ o. cons_option o [] ≡ option_to_list o) [ None ↦ refl | Some y ↦ refl ]

  pub said-more : 0 < length g.now → new ≡ old ++ option_to_list (h (answer_of_lines v (texts g.now))) → new ≡ filter_map h (said_by v (gs ++ g ∷ []))
  said-more some added =
      added ∙ ap (λ t. old ++ t) (sym (ap (filter_map h) (said_by-one v g some) ∙ filter_map-one (answer_of_lines v (texts g.now)))) ∙ sym turn

  pub said-same : length g.now ≤ 0 → new ≡ old → new ≡ filter_map h (said_by v (gs ++ g ∷ []))
  said-same none kept =
      kept ∙ sym (append-nil old) ∙ ap (λ t. old ++ t) (sym (ap (filter_map h) (said_by-none v g none))) ∙ sym turn
