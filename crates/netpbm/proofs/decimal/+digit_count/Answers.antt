use Rattle.std.proofs.Common.{length, sym, ap, arith, length-append}
use Rattle.std.proofs.lemmas.Fmt.{decimal_digit, decimal_step, length-decimal-le}
use Rattle.netpbm.proofs.decimal.+digit_count.Goals as goal

pub returns-then-n-lt10 : goal.returns-then-n-lt10
returns-then-n-lt10 t c = record { value = sym (ap length (decimal_digit c.args.n c.if-n-lt10.true)); bound = omega arith }

pub returns-else-n-lt10 : goal.returns-else-n-lt10
returns-else-n-lt10 t c =
    let h = simp length-append at (ap length (decimal_step c.args.n c.if-n-lt10.false (omega arith))) in
    record {
      value = omega (arith, h, c.digit_count.ensures.value);
      bound = omega (arith, h, c.digit_count.ensures.value, length-decimal-le 20 c.args.n (omega arith) (omega arith) (omega arith));
    }
