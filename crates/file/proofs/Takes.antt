-- What is gathered when a line is taken in, and when the lines end.
use Rattle.std.proofs.Common.{◌≡◌, ℕ, ◌+◌, ◌-◌, List, drop, Some, None, Ok, Err, Option, Result, sym, refl, ap, ◌∙◌, arith}
use Rattle.std.proofs.lemmas.List.{drop-drop}
use Rattle.std.specs.Result.{result_transpose}
use Rattle.list.specs.declared.faults.ListFault.{ListFault}
use Rattle.room.specs.Sales.{Sale}
use Rattle.file.specs.Contents.{with_register, and_then, sale_of_items}
use Rattle.file.specs.steps.Contents.{enrolling_answer, register_after, goes_on, KeepsRest}
use Rattle.file.specs.Form.{Item, Items, end, broken, item}
use Rattle.file.specs.Hexadecimal.{written_bytes}
use Rattle.file.specs.Reader.{given_item, first_of, rest_of}
use Rattle.file.specs.declared.faults.FileFault.{FileFault}
use Rattle.file.specs.declared.faults.FileFault.TheVariants.{List as ByList}
use Rattle.file.specs.declared.contents.Gathering.{Gathering}
use Rattle.file.specs.declared.line.Line.{Line}
use Rattle.room.specs.declared.register.RegisterEntry.{RegisterEntry}
use Rattle.file.proofs.Sound.{first_then, first_broken, first_ended}

abbrev pub bidder_of : ℕ → List ℕ → RegisterEntry
bidder_of b key = record { bidder = b; key = written_bytes key }

-- a bidder that is enrolled, or refused
pub bidder_gathers : (n : ℕ) (R : Result (List RegisterEntry) ListFault) (s t : Sale) (r : Result (Unit {0}) FileFault)
    → r ≡ enrolling_answer n R → t ≡ with_register (register_after R s.register) s → (is : Items)
    → and_then n s R (λ register. sale_of_items (with_register register s) is) ≡ goes_on r t is
bidder_gathers n (Ok register) s t r a e is = rw a (rw e refl)
bidder_gathers n (Err f) s t r a e is = rw a (ap (λ u. Err (record { fault = ByList n f; before = u })) (sym e))

-- what reading answered is the first of what was left
pub gave : (r o : Result (Option Line) FileFault) (f : Option (Result Item FileFault)) → r ≡ o → given_item (result_transpose r) ≡ f → given_item (result_transpose o) ≡ f
gave r o f e g = ap (λ x. given_item (result_transpose x)) (sym e) ∙ g

-- a function of what is left, over the line that a reader gave
pub over_first : {X : Type 0} (F : Items → X) (L rest : Items) (i : Item) (x : X) → Some (Ok i) ≡ first_of L → rest ≡ rest_of L → F L ≡ x → F (item i rest) ≡ x
over_first F L rest i x e r h = ap (λ z. F (item i z)) r ∙ sym (ap F (first_then L i e)) ∙ h

pub over_broken : {X : Type 0} (F : Items → X) (L : Items) (f : FileFault) (x : X) → Some (Err f) ≡ first_of L → F L ≡ x → F (broken f) ≡ x
over_broken F L f x e h = sym (ap F (first_broken L f e)) ∙ h

pub over_ended : {X : Type 0} (F : Items → X) (L : Items) (x : X) → None ≡ first_of L → F L ≡ x → F end ≡ x
over_ended F L x e h = sym (ap F (first_ended L e)) ∙ h

-- what lies behind the register, after one more step
pub keeps_on : (a b c : Gathering) → KeepsRest a b → KeepsRest b c → KeepsRest a c
keeps_on a b c h k =
    let n : b.sale.count + (c.sale.count - b.sale.count) ≡ c.sale.count = let m = k.more in omega arith in
    let behind : (p : List RegisterEntry) → drop (c.sale.count - b.sale.count) (drop b.sale.count p) ≡ drop c.sale.count p =
    λ p. drop-drop (c.sale.count - b.sale.count) b.sale.count p ∙ ap (λ i. drop i p) n in
    record {
      more = let m = h.more in let o = k.more in omega arith;
      rest = k.rest ∙ sym (behind b.places.now) ∙ ap (drop (c.sale.count - b.sale.count)) h.rest ∙ behind a.places.now;
    }
