-- Facts about the writing of numbers, lines and pages into a place.
use Rattle.std.proofs.Common.{◌≡◌, ℕ, ◌+◌, ◌<◌, ◌≤◌, List, [], ◌∷◌, ◌++◌, length, get_or, take, drop, codes, decimal, sym, refl, ap, ◌∙◌, arith}
use lib.Seq.{paste}
use Rattle.std.proofs.lemmas.List.{length-append, append_assoc, append-nil, take_more, take-append-drop}
use Rattle.std.proofs.lemmas.List.Edits.{paste_all, paste-paste}
use Rattle.room.specs.declared.printing.Row.{Row}
use Rattle.room.specs.declared.sheet.SheetEntry.{SheetEntry}
use Rattle.std.specs.List.{flat_map}
use Rattle.room.specs.Page.{names, row_of, rows, line, page}
use Rattle.room.specs.Places.{place_with_at}

pub written_more : (d : List ℕ) (at : ℕ) (s t : List ℕ) → at ≤ length d → place_with_at (place_with_at d at s) (at + length s) t ≡ place_with_at d at (s ++ t)
written_more d at s t h =
    sym (paste_all (place_with_at d at s) (at + length s) t (length t) refl)
    ∙ ap (λ z. paste z (at + length s) t (length t)) (sym (paste_all d at s (length s) refl))
    ∙ paste-paste d at s t (length s) (length t) refl refl h
    ∙ paste_all d at (s ++ t) (length s + length t) (sym (length-append s t))
    ∙ ap (λ k. take at d ++ ((s ++ t) ++ drop (at + k) d)) (sym (length-append s t))

pub written_then : (d e f : List ℕ) (at m : ℕ) (s t : List ℕ) → at ≤ length d → e ≡ place_with_at d at s → m ≡ at + length s → f ≡ place_with_at e m t → f ≡ place_with_at d at (s ++ t)
written_then d e f at m s t h ee em ef =
    ef ∙ ap (λ z. place_with_at z m t) ee ∙ ap (λ k. place_with_at (place_with_at d at s) k t) em ∙ written_more d at s t h

pub length_line : (r : Row) → length (line r) ≡ length (decimal r.lot) + length (decimal r.bidder) + length (decimal r.amount) + 3
unfolding line
length_line r = simp length-append (omega arith)

pub line_parts : (r : Row) → ((((decimal r.lot ++ 44 ∷ []) ++ decimal r.bidder) ++ 44 ∷ []) ++ decimal r.amount) ++ 10 ∷ [] ≡ line r
unfolding line
line_parts r = simp append_assoc

-- The lines of a sheet's entries.
abbrev lines : ℕ → List SheetEntry → List ℕ
lines lot ps = flat_map line (rows lot ps)

lines_append : (lot : ℕ) (xs ys : List SheetEntry) → lines lot (xs ++ ys) ≡ lines lot xs ++ lines lot ys
lines_append lot [] ys = refl
lines_append lot (x ∷ xs) ys = ap (λ z. line (row_of lot x) ++ z) (lines_append lot xs ys) ∙ sym (append_assoc (line (row_of lot x)) (lines lot xs) (lines lot ys))

-- The lines of the first entries, with one more.
pub lines_more : (lot : ℕ) (ps : List SheetEntry) (i : ℕ) (d : SheetEntry) → i < length ps → lines lot (take (i + 1) ps) ≡ lines lot (take i ps) ++ line (row_of lot (get_or ps i d))
lines_more lot ps i d h =
    ap (lines lot) (take_more ps i d h)
    ∙ lines_append lot (take i ps) (get_or ps i d ∷ [])
    ∙ ap (λ z. lines lot (take i ps) ++ z) (append-nil (line (row_of lot (get_or ps i d))))

lines_front : (lot : ℕ) (ps : List SheetEntry) (i : ℕ) → length (lines lot (take i ps)) ≤ length (lines lot ps)
lines_front lot ps i =
    let e = ap (λ z. length (lines lot z)) (take-append-drop i ps) in
    let k = ap length (lines_append lot (take i ps) (drop i ps)) in
    let n = length-append (lines lot (take i ps)) (lines lot (drop i ps)) in
    omega arith

pub line_fits : (lot : ℕ) (ps : List SheetEntry) (i start at n : ℕ) (d : SheetEntry) → i < length ps → at ≡ start + length (lines lot (take i ps)) → start + length (lines lot ps) ≤ n → at + length (line (row_of lot (get_or ps i d))) ≤ n
line_fits lot ps i start at n d h ea l =
    let a = ap length (lines_more lot ps i d h) in
    let b = length-append (lines lot (take i ps)) (line (row_of lot (get_or ps i d))) in
    let c = lines_front lot ps (i + 1) in
    omega arith

pub page_length : (lot : ℕ) (ps : List SheetEntry) → length (page lot ps) ≡ 18 + length (lines lot ps)
unfolding page names
page_length lot ps = length-append (codes "lot,bidder,amount\n") (lines lot ps)

-- The names, and then the lines, are the page.
pub page_written : (d e f : List ℕ) (m lot : ℕ) (ps : List SheetEntry) → e ≡ place_with_at d 0 (codes "lot,bidder,amount\n") → m ≡ 18 → f ≡ place_with_at e m (lines lot ps) → f ≡ place_with_at d 0 (page lot ps)
unfolding page names
page_written d e f m lot ps ee em ef = written_then d e f 0 m (codes "lot,bidder,amount\n") (lines lot ps) (omega arith) ee em ef

-- What a read behind the last entry of a sheet would give.
abbrev pub none_listed : SheetEntry
none_listed = record { bidder = 0; amount = 0 }
