use Rattle.std.proofs.Common.{◌≡◌, ℕ, Bool, true, false, cond, List, length, Ok, Err, Result, sym, ap, ◌∙◌, ap₂, arith, rules}
use Rattle.std.specs.Int.{w128, from_be_bytes}
use Rattle.std.specs.Int.Digits.{number_from_digits}
use Rattle.std.specs.Str.{bytes_eq}
use Rattle.std.proofs.lemmas.List.{take_all}
use Rattle.cipher.specs.Masks.{first_mask}
use Rattle.cipher.specs.Mode.{tag, tag_from}
use Rattle.cipher.specs.Groups.{block_in}
use Rattle.cipher.specs.Calls.{CheckedText, check_answer}
use Rattle.cipher.specs.Theorems.{LawfulSizes}
use Rattle.cipher.specs.declared.faults.CipherFault.{CipherFault}
use Rattle.cipher.specs.declared.faults.CipherFault.TheVariants.{WrongTag}
use Rattle.engine.specs.declared.variants.Variant.{Variant}
use Rattle.cipher.proofs.Bytes.{sixteen_read}
use Rattle.cipher.proofs.Laws.{sized_check}
use Rattle.cipher.proofs.checked.check.Goals as goal

-- A text of lawful sizes whose tag is right is granted, with its key and nonce as numbers.
passed : (v w : Variant) (k m : ℕ) (key nonce associated sealed tag_place : List ℕ) → LawfulSizes v key nonce associated sealed tag_place
    → bytes_eq tag_place (tag v key nonce associated sealed) ≡ true → w ≡ v → k ≡ number_from_digits 256 key → m ≡ number_from_digits 256 nonce
    → (let r : Result CheckedText CipherFault = Ok (record { variant = w; key = k; nonce = m; sealed = sealed }) in r ≡ check_answer v key nonce associated sealed tag_place)
passed v w k m key nonce associated sealed tag_place sizes right ew ek em =
    let text : Variant → ℕ → ℕ → CheckedText = λ w k m. record { variant = w; key = k; nonce = m; sealed = sealed } in
    let same : text w k m ≡ text v (number_from_digits 256 key) (number_from_digits 256 nonce) = ap₂ (λ w k. text w k m) ew ek ∙ ap (text v (number_from_digits 256 key)) em in
    ap (λ (t : CheckedText). Ok t) same
    ∙ sym (sized_check v key nonce associated sealed tag_place sizes ∙ ap (λ b. cond b (Ok (text v (number_from_digits 256 key) (number_from_digits 256 nonce))) (Err WrongTag)) right)

-- One whose tag is not right is refused.
refused : (v : Variant) (key nonce associated sealed tag_place : List ℕ) → LawfulSizes v key nonce associated sealed tag_place
    → bytes_eq tag_place (tag v key nonce associated sealed) ≡ false
    → (let r : Result CheckedText CipherFault = Err WrongTag in r ≡ check_answer v key nonce associated sealed tag_place)
refused v key nonce associated sealed tag_place sizes wrong =
    sym (sized_check v key nonce associated sealed tag_place sizes ∙ ap (λ b. cond b (Ok (record { variant = v; key = number_from_digits 256 key; nonce = number_from_digits 256 nonce; sealed = sealed })) (Err WrongTag)) wrong)

-- The answer of the test of a tag under a first mask and a nonce that are the key's and the nonce's.
tested : (v : Variant) (first key m nonce associated sealed tag_place : List ℕ) (b : Bool) → first ≡ first_mask v key → m ≡ nonce
    → b ≡ bytes_eq tag_place (tag_from v first m associated sealed) → bytes_eq tag_place (tag v key nonce associated sealed) ≡ b
unfolding tag
tested v first key m nonce associated sealed tag_place b ef em e = sym (e ∙ ap₂ (λ f k. bytes_eq tag_place (tag_from v f k associated sealed)) ef em)

pub returns-then-not-branch : goal.returns-then-not-branch
returns-then-not-branch g c =
    let v = g.E.Engine.kind c.args.engine.now in
    let keyed = c.in_ok-keyed.keyed in
    let nonce = c.in_ok-lawful.lawful.nonce.now in
    let associated = c.args.associated.now in
    let sealed = c.args.sealed.now in
    let tag_place = c.args.tag.now in
    let ek : c.in_ok-lawful.lawful.key.now ≡ c.args.key.now = search rules in
    let en : nonce ≡ c.args.nonce.now = search rules in
    let sizes : LawfulSizes v c.args.key.now c.args.nonce.now associated sealed tag_place =
    record { key_length = search rules; nonce_length = search rules; associated_length = search rules; text_length = search rules; tag_length = search rules } in
    let wrong : false ≡ bytes_eq tag_place (tag_from (g.E.Engine.kind keyed.engine.now) (block_in (g.E.Engine.kind keyed.engine.now) keyed.first) nonce associated sealed) = search rules in
    refused v c.args.key.now c.args.nonce.now associated sealed tag_place sizes
    (tested v (block_in v keyed.first) c.args.key.now nonce c.args.nonce.now associated sealed tag_place false (c.in_ok-keyed.ensures.1 ∙ ap (first_mask v) ek) en
    (wrong ∙ ap (λ e. bytes_eq tag_place (tag_from (g.E.Engine.kind e) (block_in (g.E.Engine.kind e) keyed.first) nonce associated sealed)) c.in_ok-keyed.ensures.0))

pub returns : goal.returns
returns g c =
    let v = g.E.Engine.kind c.args.engine.now in
    let keyed = c.in_ok-keyed.keyed in
    let key = c.args.key.now in
    let nonce = c.in_ok-lawful.lawful.nonce.now in
    let associated = c.args.associated.now in
    let sealed = c.args.sealed.now in
    let tag_place = c.args.tag.now in
    let ek : c.in_ok-lawful.lawful.key.now ≡ key = search rules in
    let en : nonce ≡ c.args.nonce.now = search rules in
    let lk : length key ≡ 16 = search rules in
    let ln : length c.args.nonce.now ≡ 12 = search rules in
    let sizes : LawfulSizes v key c.args.nonce.now associated sealed tag_place =
    record { key_length = lk; nonce_length = ln; associated_length = search rules; text_length = search rules; tag_length = search rules } in
    let right : true ≡ bytes_eq tag_place (tag_from (g.E.Engine.kind keyed.engine.now) (block_in (g.E.Engine.kind keyed.engine.now) keyed.first) nonce associated sealed) = search rules in
    let same = tested v (block_in v keyed.first) key nonce c.args.nonce.now associated sealed tag_place true (c.in_ok-keyed.ensures.1 ∙ ap (first_mask v) ek) en
    (right ∙ ap (λ e. bytes_eq tag_place (tag_from (g.E.Engine.kind e) (block_in (g.E.Engine.kind e) keyed.first) nonce associated sealed)) c.in_ok-keyed.ensures.0) in
    passed v c.variant-variant.result c.from_be_bytes.result c.number_of.result key c.args.nonce.now associated sealed tag_place sizes same c.variant-variant.ensures.answer
    (c.from_be_bytes.ensures ∙ ap (from_be_bytes w128) ek ∙ sixteen_read key lk)
    (c.number_of.ensures ∙ ap (number_from_digits 256) (take_all 16 c.args.nonce.now (omega arith)))
