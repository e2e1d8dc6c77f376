use Rattle.std.proofs.Common.{◌+◌, ◌-◌, ◌%◌, ◌≤◌, [], ◌∷◌, ◌++◌, length, sym, ap, ◌∙◌, arith, length-append}
use Rattle.std.proofs.lemmas.List.{length-take-le}
use Rattle.std.proofs.lemmas.Fmt.{decimal_digit, decimal_step, decimal_nonempty}
use Rattle.netpbm.proofs.Parts.{set_last, length_last, set_only}
use Rattle.netpbm.proofs.decimal.+put_decimal.Goals as goal

pub bounds-out-0 : goal.bounds-out-0
bounds-out-0 t c = omega (arith, decimal_nonempty c.args.n (omega arith))

pub overflow_sub-last : goal.overflow_sub-last
overflow_sub-last t c = omega (arith, decimal_nonempty c.args.n (omega arith))

pub put_decimal-requires : goal.put_decimal-requires
put_decimal-requires t c =
    let h = simp length-append at (ap length (decimal_step c.args.n c.if-n-lt10.false (omega arith))) in
    let xs = c.args.out.now in
    (omega arith, length-take-le (length xs - 1 - 0) xs (omega arith) ∙ omega (arith, h))

pub bounds-out-last : goal.bounds-out-last
bounds-out-last t c =
    let xs = c.args.out.now in
    let some : 1 ≤ length xs = omega (arith, decimal_nonempty c.args.n (omega arith)) in
    let h = length_last xs c.put_decimal.new.out (length xs - 1) (length xs - 1 - 0) (omega arith) (omega arith) (omega arith) in
    omega (arith, h)

pub returns-then-n-lt10 : goal.returns-then-n-lt10
returns-then-n-lt10 t c =
    let d = decimal_digit c.args.n c.if-n-lt10.true in
    set_only c.args.out.now _ (c.requires ∙ ap length d) ∙ sym d

pub returns-else-n-lt10 : goal.returns-else-n-lt10
returns-else-n-lt10 t c =
    let xs = c.args.out.now in
    let some : 1 ≤ length xs = omega (arith, decimal_nonempty c.args.n (omega arith)) in
    let step = decimal_step c.args.n c.if-n-lt10.false (omega arith) in
    set_last xs c.put_decimal.new.out (length xs - 1) (length xs - 1 - 0) _ (omega arith) (omega arith) (omega arith)
    ∙ ap (λ ds. ds ++ ((48 + c.args.n % 10) ∷ [])) c.put_decimal.ensures
    ∙ sym step
