use Rattle.std.proofs.Common.{◌≡◌, None, sym, ◌∙◌, rules, arith}
use Rattle.netpbm.specs.Words.{capped, spelled, word_from}
use Rattle.netpbm.proofs.Words.{word_none}
use Rattle.netpbm.proofs.number.spelled.Goals as goal

pub returns-in_err-value-clause-value : goal.returns-in_err-value-clause-value
returns-in_err-value-clause-value c =
    let xs = c.args.bytes.now in
    let none : capped (spelled 0 (word_from xs)) ≡ None =
    sym c.loop-length.invariant.0 ∙ word_none xs c.loop-length.length c.loop-length.value (omega arith) (sym c.if-is_separator.ensures) c.in_err-value.ensures in
    search rules
