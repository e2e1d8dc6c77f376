use Rattle.std.proofs.Common.{◌+◌, ◌*◌, length, sym, refl, ◌∙◌, arith}
use Rattle.std.proofs.lemmas.Result.{err_from_is_err_and}
use Rattle.netpbm.proofs.Refusing.{total_is, refused_short, refused_by_codes}
use Rattle.netpbm.proofs.packing.pack.Goals as goal

pub returns-then-out-total : goal.returns-then-out-total
returns-then-out-total c =
    let rows = c.args.size.now.rows in
    let columns = c.args.size.now.columns in
    let codes = c.args.codes.now in
    let start = c.header_length-start.result in
    let w = c.row_bytes.result in
    let due = total_is rows columns codes start w c.header_length-start.ensures.value c.row_bytes.ensures in
    (sym (refused_short rows columns codes (length c.args.out.now) (start + rows * w) (omega arith) due (omega arith)), refl)

pub returns-in_err-check_codes : goal.returns-in_err-check_codes
returns-in_err-check_codes c =
    let rows = c.args.size.now.rows in
    let columns = c.args.size.now.columns in
    let codes = c.args.codes.now in
    let start = c.header_length-start.result in
    let w = c.row_bytes.result in
    let due = total_is rows columns codes start w c.header_length-start.ensures.value c.row_bytes.ensures in
    let by = refused_by_codes rows columns codes (length c.args.out.now) (start + rows * w) (omega arith) due (omega arith) in
    let p = err_from_is_err_and c.from_residual.result c.from_residual.ensures.1 in
    rw (p.1, p.2) (c.in_err-check_codes.ensures ∙ sym by, refl)
