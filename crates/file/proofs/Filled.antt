-- What a buffer that was filled from a reader says of the bytes that the reader had left.
use Rattle.std.proofs.Common.{◌≡◌, ℕ, ◌++◌, length, take, Some, None, Option, IfSome, sym, ap, ◌∙◌, inl, inr, append-nil, subst, arith}
use Rattle.std.proofs.lemmas.Bool.{cases_lt}
use Rattle.std.proofs.lemmas.List.{take_all, length-take-le}
use lib.Seq.{take-append_seam}
use Rattle.room.specs.Sales.{Bytes}
use Rattle.file.specs.Streams.{Fills}

-- the places filled have the first bytes, as many as the buffer has places
pub take-filled : (limit n : ℕ) (before after : Option Bytes) (buffer : Bytes) → length buffer ≡ limit → Fills before after buffer n
    → IfSome before (λ bytes. take n buffer ≡ take limit bytes)
take-filled limit n None after buffer e f = tt
take-filled limit n (Some x) None buffer e f = absurd f.reads
take-filled limit n (Some x) (Some y) buffer e f =
    let has = take n buffer in
    let len : length has ≡ n = length-take-le n buffer f.within in
    elim (cases_lt n (length buffer)) [
      | inl part ↦
          let all : x ≡ has = f.reads ∙ ap (λ l. has ++ l) (f.ends part) ∙ append-nil has in
          sym all ∙ sym (take_all limit x (let l = ap length all in omega arith))
      | inr full ↦
          let is_limit : length has ≡ limit = let w = f.within in omega arith in
          sym (ap (take limit) f.reads ∙ ap (λ k. take k (has ++ y)) (sym is_limit) ∙ take-append_seam has y)
    ]

-- the same of what is left of a vector that was filled and then cut to the places filled: `rest` is nothing, as a slice of it keeps its length
pub take-cut : (limit n len : ℕ) (before after : Option Bytes) (buffer rest cut : Bytes) → length buffer ≡ len → len ≡ limit → Fills before after buffer n
    → cut ≡ take n (take len (buffer ++ rest)) → IfSome before (λ bytes. cut ≡ take limit bytes)
take-cut limit n len before after buffer rest cut l e f c =
    let whole : take len (buffer ++ rest) ≡ buffer = ap (λ k. take k (buffer ++ rest)) (sym l) ∙ take-append_seam buffer rest in
    subst (λ x. IfSome before (λ bytes. x ≡ take limit bytes)) (sym (c ∙ ap (take n) whole)) (take-filled limit n before after buffer (l ∙ e) f)
