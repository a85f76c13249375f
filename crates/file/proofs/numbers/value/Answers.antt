use Rattle.std.proofs.Common.{◌≡◌, ◌+◌, ◌-◌, ◌*◌, true, false, get_or, drop, None, sym, ◌∙◌, arith, rules}
use Rattle.file.specs.Numbers.{is_digit}
use Rattle.file.proofs.Digits.{read_more, read_other, read_large, read_end, read_start}
use Rattle.file.proofs.numbers.value.Goals as goal

pub loop-c-init : goal.loop-c-init
loop-c-init c = (omega arith, read_start c.args.digits.now)

pub returns-then-not-is_ascii_digit : goal.returns-then-not-is_ascii_digit
returns-then-not-is_ascii_digit c =
    let e : is_digit (get_or c.args.digits.now c.loop-c.c-index 0) ≡ false = search rules in
    sym (read_other c.loop-c.n c.args.digits.now c.loop-c.c-index (omega arith) e) ∙ c.loop-c.invariant.1

pub returns-in_err-checked_mul : goal.returns-in_err-checked_mul
returns-in_err-checked_mul c =
    let r : c.from_residual.result ≡ None = search rules in
    let e : is_digit (get_or c.args.digits.now c.loop-c.c-index 0) ≡ true = search rules in
    r ∙ sym (read_large (c.loop-c.n * 10 + (get_or c.args.digits.now c.loop-c.c-index 0 - 48)) (drop (c.loop-c.c-index + 1) c.args.digits.now) (omega arith))
    ∙ sym (read_more c.loop-c.n c.args.digits.now c.loop-c.c-index (omega arith) e) ∙ c.loop-c.invariant.1

pub returns-in_err-n : goal.returns-in_err-n
returns-in_err-n c =
    let r : c.from_residual-in_err-n.result ≡ None = search rules in
    let e : is_digit (get_or c.args.digits.now c.loop-c.c-index 0) ≡ true = search rules in
    r ∙ sym (read_large (c.loop-c.n * 10 + (get_or c.args.digits.now c.loop-c.c-index 0 - 48)) (drop (c.loop-c.c-index + 1) c.args.digits.now) (omega arith))
    ∙ sym (read_more c.loop-c.n c.args.digits.now c.loop-c.c-index (omega arith) e) ∙ c.loop-c.invariant.1

pub loop-c-preserved : goal.loop-c-preserved
loop-c-preserved c =
    let e : is_digit (get_or c.args.digits.now c.loop-c.c-index 0) ≡ true = search rules in
    let n : c.in_ok-n.n ≡ c.loop-c.n * 10 + (get_or c.args.digits.now c.loop-c.c-index 0 - 48) = omega arith in
    (omega arith, rw n (sym (read_more c.loop-c.n c.args.digits.now c.loop-c.c-index (omega arith) e) ∙ c.loop-c.invariant.1))

pub returns : goal.returns
returns c = sym (read_end c.loop-c.n c.args.digits.now c.loop-c.c-index (omega arith) (omega arith)) ∙ c.loop-c.invariant.1
