use Rattle.std.proofs.Common.{◌+◌, ◌-◌, length, ap, ◌∙◌, arith}
use Rattle.netpbm.proofs.HeaderLength.{length-header}
use Rattle.netpbm.proofs.Parts.{headed}
use Rattle.netpbm.proofs.header.put_header.Goals as goal

pub returns : goal.returns
returns c =
    let h = length-header c.args.rows c.args.columns in
    let begun = c.copy_from_slice.ensures.after in
    let ds = c.put_decimal.ensures in
    let es = c.put_decimal-2.ensures in
    let gap = c.digit_count-gap.result + 3 in
    let end = gap + 1 + c.digit_count.result in
    headed c.args.out.now c.copy_from_slice.new.self c.put_decimal.new.out c.put_decimal-2.new.out 32 10 gap end (gap - 3) (end - (gap + 1))
    (ap length begun) (omega (arith, ap length ds)) (omega (arith, ap length es)) (omega arith) (omega (arith, ap length ds)) (omega (arith, ap length es))
    ∙ simp (begun, ds, es)
