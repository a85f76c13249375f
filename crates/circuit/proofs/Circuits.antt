-- The circuit does what the table says.
use Rattle.std.proofs.Common.{◌≡◌, Bool, true, false, not, ◌&&◌, ◌||◌, refl, ap, ◌∙◌, ap₂}
use Rattle.binary.specs.Bits.{differs}
use Rattle.circuit.specs.Planes.{entry}

-- the bit b is x
pub record Is (b x : Bool) : Type 0 where
  pub is : b ≡ x

pub own : (b : Bool) → Is b b
own b = record { is = refl }

pub and_is : {r a b x y : Bool} → r ≡ (a && b) → Is a x → Is b y → Is r (x && y)
and_is e p q = record { is = e ∙ ap₂ (λ a b. a && b) p.is q.is }

pub or_is : {r a b x y : Bool} → r ≡ (a || b) → Is a x → Is b y → Is r (x || y)
or_is e p q = record { is = e ∙ ap₂ (λ a b. a || b) p.is q.is }

pub xor_is : {r a b x y : Bool} → r ≡ differs a b → Is a x → Is b y → Is r (differs x y)
xor_is e p q = record { is = e ∙ ap₂ differs p.is q.is }

pub not_is : {r a x : Bool} → r ≡ not a → Is a x → Is r (not x)
not_is e p = record { is = e ∙ ap not p.is }

-- the circuit on bits
abbrev pub wa : Bool → Bool → Bool → Bool → Bool
wa a b c d = differs (differs d (not c && b)) a

abbrev pub wb : Bool → Bool → Bool → Bool → Bool
wb a b c d = differs (differs (differs (wa a b c d) (not c) || d) b) c

abbrev pub wc : Bool → Bool → Bool → Bool → Bool
wc a b c d = differs (differs (wa a b c d) (not c)) (not (wb a b c d) || d)

abbrev pub wd : Bool → Bool → Bool → Bool → Bool
wd a b c d = differs (differs (not c && wc a b c d) d) (wb a b c d && b)

abbrev Right : Bool → Bool → Bool → Bool → Type 0
Right a b c d = (wa a b c d ≡ entry a b c d 0) × (wb a b c d ≡ entry a b c d 1) × (wc a b c d ≡ entry a b c d 2) × (wd a b c d ≡ entry a b c d 3)

-- sixteen cases, each computed
pub right : (a b c d : Bool) → Right a b c d
right true true true true = (refl, refl, refl, refl)
right true true true false = (refl, refl, refl, refl)
right true true false true = (refl, refl, refl, refl)
right true true false false = (refl, refl, refl, refl)
right true false true true = (refl, refl, refl, refl)
right true false true false = (refl, refl, refl, refl)
right true false false true = (refl, refl, refl, refl)
right true false false false = (refl, refl, refl, refl)
right false true true true = (refl, refl, refl, refl)
right false true true false = (refl, refl, refl, refl)
right false true false true = (refl, refl, refl, refl)
right false true false false = (refl, refl, refl, refl)
right false false true true = (refl, refl, refl, refl)
right false false true false = (refl, refl, refl, refl)
right false false false true = (refl, refl, refl, refl)
right false false false false = (refl, refl, refl, refl)
