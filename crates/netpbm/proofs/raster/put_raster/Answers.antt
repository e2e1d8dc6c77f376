use Rattle.std.proofs.Common.{◌+◌, ◌-◌, ◌*◌, ap, arith}
use Rattle.netpbm.proofs.Rows.{row_written}
use Rattle.netpbm.proofs.raster.put_raster.Goals as goal

pub loop-row-preserved : goal.loop-row-preserved
loop-row-preserved c =
    let rows = c.args.size.now.rows in
    let columns = c.args.size.now.columns in
    let w = c.row_bytes-width.result in
    let r = c.loop-row.row in
    let e = ap (λ n. rows * n) c.row_bytes-width.ensures in
    row_written c.loop-row.out c.pack_row.new.out c.args.codes.now r rows columns w (r * w + w - r * w) (r * columns + columns - r * columns)
    (omega arith) c.row_bytes-width.ensures (omega arith) (omega arith) (omega arith) c.loop-row.invariant c.pack_row.ensures
