-- The lines of the lot, of a bidder and of an envelope, written and read.
use Rattle.std.proofs.Common.{◌≡◌, ℕ, ◌+◌, ◌*◌, ◌%◌, ◌^◌, ◌<◌, ◌≤◌, Bool, true, false, ◌&&◌, cond, ltb, leb, eqb, [], ◌∷◌, ◌++◌, length, Some, None, Ok, Err, codes, decimal, Option, sym, refl, ap, ◌∙◌, arith, rules, length-append}
use Rattle.std.specs.List.{AllByRecursion}
use Rattle.std.specs.Str.{bytes_eq}
use Rattle.std.proofs.lemmas.Bool.{and_parts, and_from, le-leb, leb-true, lt-ltb, ltb-true, eqb-true, eq-eqb}
use Rattle.std.proofs.lemmas.Slice.Eq.{bytes_eq-Decides}
use Rattle.engine.specs.declared.variants.Variant.{Variant}
use Rattle.engine.specs.declared.variants.Variant.TheVariants.{Dumbo, Jumbo, Delirium}
use Rattle.room.specs.Sales.{Bytes}
use Rattle.room.specs.declared.register.RegisterEntry.{RegisterEntry}
use Rattle.file.specs.Fields.{holds_comma, field, behind}
use Rattle.file.specs.Form.{Item, lot_item, bidder_item, envelope_item, variant_of, lot_values, lot_line_item, is_key, bidder_values, bidder_line_item, is_envelope, envelope_line_item}
use Rattle.file.specs.Format.{hexadecimal, variant_name, lot_line, bidder_line, LawfulBidder, LawfulEnvelope}
use Rattle.file.specs.Hexadecimal.{all_hex_digits, written_bytes}
use Rattle.file.specs.Numbers.{number_of}
use Rattle.file.specs.declared.faults.FileFault.TheVariants.{Form, TermsLength}
use Rattle.file.proofs.Texts.{Without, without_append, without_behind}
use Rattle.file.proofs.Commas.{holds-append, field-append, behind-append, append-fields}
use Rattle.file.proofs.Decimals.{without_decimal, number_of-decimal, decimal-number_of}
use Rattle.file.proofs.HexTexts.{all_hex_digits-hexadecimal, length-hexadecimal, hexadecimal-written_bytes, without_hexadecimal}

-- a text of greater bytes
pub without_above : (b m : ℕ) (cs : Bytes) → b < m → AllByRecursion (λ c. m ≤ c) cs → Without b cs
without_above b m [] l h = tt
without_above b m (c ∷ cs) l h = (λ e. (let k = h.0 in omega arith), without_above b m cs l h.1)

-- names of variants
without_name : (b : ℕ) (v : Variant) → b < 48 → Without b (variant_name v)
without_name b Dumbo l = without_above b 48 (codes "dumbo") l (search rules)
without_name b Jumbo l = without_above b 48 (codes "jumbo") l (search rules)
without_name b Delirium l = without_above b 48 (codes "delirium") l (search rules)

variant_of-name : (v : Variant) → variant_of (variant_name v) ≡ Some v
variant_of-name Dumbo = refl
variant_of-name Jumbo = refl
variant_of-name Delirium = refl

variant_by : (name : Bytes) (v : Variant) (d j s : Bool) → bytes_eq name (codes "dumbo") ≡ d → bytes_eq name (codes "jumbo") ≡ j
    → bytes_eq name (codes "delirium") ≡ s
    → cond d (Some Dumbo) (cond j (Some Jumbo) (cond s (Some Delirium) None)) ≡ Some v → name ≡ variant_name v
variant_by name v true j s p q r e = let h : Dumbo ≡ v = cc in (bytes_eq-Decides name (codes "dumbo")).0 p ∙ ap variant_name h
variant_by name v false true s p q r e = let h : Jumbo ≡ v = cc in (bytes_eq-Decides name (codes "jumbo")).0 q ∙ ap variant_name h
variant_by name v false false true p q r e = let h : Delirium ≡ v = cc in (bytes_eq-Decides name (codes "delirium")).0 r ∙ ap variant_name h
variant_by name v false false false p q r e = absurd (let z : ◌≡◌ {A = ℕ} 0 1 = cc in omega arith)

name_back : (name : Bytes) (v : Variant) → variant_of name ≡ Some v → name ≡ variant_name v
name_back name v e =
    variant_by name v (bytes_eq name (codes "dumbo")) (bytes_eq name (codes "jumbo")) (bytes_eq name (codes "delirium")) refl refl refl e

-- the lot
lot_by : (n lot : ℕ) (v : Variant) (terms : Bytes) (t : Bool) (o : Option ℕ) (w : Option Variant) (ts : Bytes)
    → t ≡ true → o ≡ Some lot → w ≡ Some v → ts ≡ terms → length terms ≤ 64 → lot_values n t o w ts ≡ Ok (lot_item lot v terms)
lot_by n lot v terms t o w ts a b c d l = rw (a, b, c, d, le-leb (length terms) 64 l) refl

pub lot_read : (n lot : ℕ) (v : Variant) (terms : Bytes) → lot < 2 ^ 32 → length terms ≤ 64
    → lot_line_item n (lot_line lot v terms) ≡ Ok (lot_item lot v terms)
lot_read n lot v terms s l =
    let rest = variant_name v ++ (44 ∷ terms) in
    let w = without_decimal 44 lot (omega arith) s in
    let u = without_name 44 v (omega arith) in
    let b : behind (lot_line lot v terms) ≡ rest = behind-append 44 (decimal lot) rest w in
    let f : field (lot_line lot v terms) ≡ decimal lot = field-append 44 (decimal lot) rest w in
    lot_by n lot v terms _ _ _ _
    (and_from (holds_comma (lot_line lot v terms)) _ (holds-append 44 (decimal lot) rest w)
    (ap holds_comma b ∙ holds-append 44 (variant_name v) terms u))
    (ap number_of f ∙ number_of-decimal lot s)
    (ap (λ z. variant_of (field z)) b ∙ ap variant_of (field-append 44 (variant_name v) terms u) ∙ variant_of-name v)
    (ap behind b ∙ behind-append 44 (variant_name v) terms u) l

-- what a line that says the lot is
pub record LotRead (l : Bytes) (i : Item) : Type 0 where
  pub lot : ℕ
  pub variant : Variant
  pub terms : Bytes
  pub says : i ≡ lot_item lot variant terms
  pub is : l ≡ lot_line lot variant terms
  pub small : lot < 2 ^ 32
  pub short : length terms ≤ 64

lot_short : (n lot : ℕ) (v : Variant) (ts : Bytes) (i : Item) (t : Bool) → leb (length ts) 64 ≡ t
    → cond t (Ok (lot_item lot v ts)) (Err (TermsLength n)) ≡ Ok i → (i ≡ lot_item lot v ts) × (length ts ≤ 64)
lot_short n lot v ts i true h e = (cc, leb-true (length ts) 64 h)
lot_short n lot v ts i false h e = absurd (let z : ◌≡◌ {A = ℕ} 0 1 = cc in omega arith)

lot_back : (n : ℕ) (t : Bool) (o : Option ℕ) (w : Option Variant) (ts : Bytes) (i : Item) → lot_values n t o w ts ≡ Ok i
    → (lot : ℕ) × (v : Variant) × (t ≡ true) × (o ≡ Some lot) × (w ≡ Some v) × (i ≡ lot_item lot v ts) × (length ts ≤ 64)
lot_back n true (Some lot) (Some v) ts i e = let k = lot_short n lot v ts i (leb (length ts) 64) refl e in (lot, v, refl, refl, refl, k.0, k.1)
lot_back n true (Some lot) None ts i e = absurd (let z : ◌≡◌ {A = ℕ} 0 1 = cc in omega arith)
lot_back n true None w ts i e = absurd (let z : ◌≡◌ {A = ℕ} 0 1 = cc in omega arith)
lot_back n false o w ts i e = absurd (let z : ◌≡◌ {A = ℕ} 0 1 = cc in omega arith)

-- a line with the three fields of the lot is the lot's
pub lot_is : (l : Bytes) (lot : ℕ) (v : Variant) → (holds_comma l && holds_comma (behind l)) ≡ true → number_of (field l) ≡ Some lot
    → variant_of (field (behind l)) ≡ Some v → (l ≡ lot_line lot v (behind (behind l))) × (lot < 2 ^ 32)
lot_is l lot v t o w =
    let commas = and_parts (holds_comma l) (holds_comma (behind l)) t in
    let number = decimal-number_of (field l) lot o in
    let name = name_back (field (behind l)) v w in
    let rest : behind l ≡ variant_name v ++ (44 ∷ behind (behind l)) =
    sym (append-fields 44 (behind l) commas.1) ∙ ap (λ z. z ++ (44 ∷ behind (behind l))) name in
    (sym (append-fields 44 l commas.0) ∙ ap (λ z. z ++ (44 ∷ behind l)) number.0 ∙ ap (λ z. decimal lot ++ (44 ∷ z)) rest, number.1)

pub lot_written : (n : ℕ) (l : Bytes) (i : Item) → lot_line_item n l ≡ Ok i → LotRead l i
lot_written n l i e =
    let k = lot_back n _ _ _ (behind (behind l)) i e in
    let is = lot_is l k.0 k.1 k.2 k.3 k.4 in
    record { lot = k.0; variant = k.1; terms = behind (behind l); says = k.5; is = is.0; small = is.1; short = k.6 }

-- a bidder
pub bidder_by : (n b : ℕ) (key : Bytes) (t : Bool) (o : Option ℕ) (ds : Bytes)
    → t ≡ true → o ≡ Some b → ds ≡ key → is_key key ≡ true → bidder_values n t o ds ≡ Ok (bidder_item n b key)
bidder_by n b key t o ds p q r k = rw (p, q, r, k) refl

pub bidder_read : (n : ℕ) (e : RegisterEntry) → LawfulBidder e
    → bidder_line_item n (bidder_line e) ≡ Ok (bidder_item n e.bidder (hexadecimal e.key))
bidder_read n e h =
    let w = without_decimal 44 e.bidder (omega arith) h.number in
    let key = hexadecimal e.key in
    let long : length key ≡ 32 = let a = length-hexadecimal e.key in let b = h.long in omega arith in
    bidder_by n e.bidder key _ _ _ (holds-append 44 (decimal e.bidder) key w)
    (ap number_of (field-append 44 (decimal e.bidder) key w) ∙ number_of-decimal e.bidder h.number)
    (behind-append 44 (decimal e.bidder) key w)
    (and_from (eqb (length key) 32) (all_hex_digits key) (eq-eqb (length key) 32 long) (all_hex_digits-hexadecimal e.key h.bytes))

pub record BidderRead (n : ℕ) (l : Bytes) (i : Item) : Type 0 where
  pub entry : RegisterEntry
  pub says : i ≡ bidder_item n entry.bidder (hexadecimal entry.key)
  pub is : l ≡ bidder_line entry
  pub lawful : LawfulBidder entry

key_back : (n b : ℕ) (ds : Bytes) (i : Item) (t : Bool) → is_key ds ≡ t → cond t (Ok (bidder_item n b ds)) (Err (Form n)) ≡ Ok i
    → (i ≡ bidder_item n b ds) × (is_key ds ≡ true)
key_back n b ds i true h e = (cc, h)
key_back n b ds i false h e = absurd (let z : ◌≡◌ {A = ℕ} 0 1 = cc in omega arith)

bidder_back : (n : ℕ) (t : Bool) (o : Option ℕ) (ds : Bytes) (i : Item) → bidder_values n t o ds ≡ Ok i
    → (b : ℕ) × (t ≡ true) × (o ≡ Some b) × (i ≡ bidder_item n b ds) × (is_key ds ≡ true)
bidder_back n true (Some b) ds i e = let k = key_back n b ds i (is_key ds) refl e in (b, refl, refl, k.0, k.1)
bidder_back n true None ds i e = absurd (let z : ◌≡◌ {A = ℕ} 0 1 = cc in omega arith)
bidder_back n false o ds i e = absurd (let z : ◌≡◌ {A = ℕ} 0 1 = cc in omega arith)

pub bidder_written : (n : ℕ) (l : Bytes) (i : Item) → bidder_line_item n l ≡ Ok i → BidderRead n l i
bidder_written n l i e =
    let ds = behind l in
    let k = bidder_back n (holds_comma l) (number_of (field l)) ds i e in
    let number = decimal-number_of (field l) k.0 k.2 in
    let key = and_parts (eqb (length ds) 32) (all_hex_digits ds) k.4 in
    let long : length ds ≡ 32 = eqb-true (length ds) 32 key.0 in
    let back = hexadecimal-written_bytes ds (omega arith) key.1 in
    let half : length (hexadecimal (written_bytes ds)) ≡ 2 * length (written_bytes ds) = length-hexadecimal (written_bytes ds) in
    let same : length (hexadecimal (written_bytes ds)) ≡ length ds = ap length back.0 in
    record {
      entry = record { bidder = k.0; key = written_bytes ds };
      says = k.3 ∙ ap (bidder_item n k.0) (sym back.0);
      is = sym (append-fields 44 l k.1) ∙ ap (λ z. z ++ (44 ∷ ds)) number.0 ∙ ap (λ z. decimal k.0 ++ (44 ∷ z)) (sym back.0);
      lawful = record { number = number.1; long = omega arith; bytes = back.1 };
    }

-- an envelope
pub envelope_read : (n : ℕ) (e : Bytes) → LawfulEnvelope e → envelope_line_item n (hexadecimal e) ≡ Ok (envelope_item n (hexadecimal e))
envelope_read n e h =
    let a = length-hexadecimal e in
    let s = h.some in
    let is : is_envelope (hexadecimal e) ≡ true =
    and_from (ltb 0 (length (hexadecimal e))) _ (lt-ltb 0 (length (hexadecimal e)) (omega arith))
    (and_from (eqb (length (hexadecimal e) % 2) 0) _ (eq-eqb (length (hexadecimal e) % 2) 0 (omega arith)) (all_hex_digits-hexadecimal e h.bytes)) in
    rw is refl

pub record EnvelopeRead (n : ℕ) (l : Bytes) (i : Item) : Type 0 where
  pub envelope : Bytes
  pub says : i ≡ envelope_item n (hexadecimal envelope)
  pub is : l ≡ hexadecimal envelope
  pub lawful : LawfulEnvelope envelope

envelope_back : (n : ℕ) (l : Bytes) (i : Item) (t : Bool) → is_envelope l ≡ t → cond t (Ok (envelope_item n l)) (Err (Form n)) ≡ Ok i
    → (i ≡ envelope_item n l) × (is_envelope l ≡ true)
envelope_back n l i true h e = (cc, h)
envelope_back n l i false h e = absurd (let z : ◌≡◌ {A = ℕ} 0 1 = cc in omega arith)

pub envelope_written : (n : ℕ) (l : Bytes) (i : Item) → envelope_line_item n l ≡ Ok i → EnvelopeRead n l i
envelope_written n l i e =
    let k = envelope_back n l i (is_envelope l) refl e in
    let some = and_parts (ltb 0 (length l)) _ k.1 in
    let rest = and_parts (eqb (length l % 2) 0) (all_hex_digits l) some.1 in
    let back = hexadecimal-written_bytes l (eqb-true (length l % 2) 0 rest.0) rest.1 in
    let half : length (hexadecimal (written_bytes l)) ≡ 2 * length (written_bytes l) = length-hexadecimal (written_bytes l) in
    let same : length (hexadecimal (written_bytes l)) ≡ length l = ap length back.0 in
    let more : 0 < length l = ltb-true 0 (length l) some.0 in
    record {
      envelope = written_bytes l;
      says = k.0 ∙ ap (envelope_item n) (sym back.0);
      is = sym back.0;
      lawful = record { some = omega arith; bytes = back.1 };
    }

-- no line has a byte 10
pub lot_line_clean : (lot : ℕ) (v : Variant) (terms : Bytes) → lot < 2 ^ 32 → Without 10 terms → Without 10 (lot_line lot v terms)
lot_line_clean lot v terms s w =
    without_append 10 (decimal lot) _ (without_decimal 10 lot (omega arith) s)
    (λ e. (omega arith), without_append 10 (variant_name v) _ (without_name 10 v (omega arith)) (λ e. (omega arith), w))

pub bidder_line_clean : (e : RegisterEntry) → LawfulBidder e → Without 10 (bidder_line e)
bidder_line_clean e h =
    without_append 10 (decimal e.bidder) _ (without_decimal 10 e.bidder (omega arith) h.number)
    (λ e. (omega arith), without_hexadecimal 10 _ (omega arith) h.bytes)

pub terms_clean : (lot : ℕ) (v : Variant) (terms : Bytes) → Without 10 (lot_line lot v terms) → Without 10 terms
terms_clean lot v terms w =
    without_behind 10 (44 ∷ []) terms
    (without_behind 10 (variant_name v) (44 ∷ terms) (without_behind 10 (44 ∷ []) _ (without_behind 10 (decimal lot) _ w)))

-- a bidder's line is not empty
pub bidder_line_some : (e : RegisterEntry) → 0 < length (bidder_line e)
bidder_line_some e =
    let h : length (bidder_line e) ≡ length (decimal e.bidder) + length (44 ∷ hexadecimal e.key) =
    length-append (decimal e.bidder) (44 ∷ hexadecimal e.key) in
    omega arith
