use Rattle.std.proofs.Common.{◌≡◌, ◌*◌, take}
use Rattle.netpbm.specs.Pbm.{raster}
use Rattle.netpbm.proofs.raster.put_raster.Given as goal

abbrev pub invariant-loop-row : goal.invariant-loop-row
invariant-loop-row l = take (l.row * l.width) l.out ≡ raster l.row l.columns l.codes
