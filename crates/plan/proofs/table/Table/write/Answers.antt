use Rattle.std.proofs.Common.{◌+◌, ◌*◌, ◌%◌, length, arith}
use Rattle.plan.specs.Table.{tabled, Sized}
use Rattle.plan.specs.TableLaws.{tabled_alike, table_plan_alike, clash_alike}
use Rattle.plan.proofs.table.Table.write.Goals as goal

pub invariant_of-self : goal.invariant_of-self
invariant_of-self c =
    let p = c.args.rows in
    let q = c.args.columns in
    let bytes = c.args.bytes.now in
    let ranks = c.padded-ranks.result in
    let sized : Sized p q (length bytes) = c.in_ok-check.ensures.0 in
    let alike = tabled_alike p q bytes ranks sized c.padded-ranks.ensures in
    record {
      height = omega arith;
      width = omega arith;
      bytes = λ i j. omega (arith, alike i j, c.type_inv.bytes ((i % p) * q + j % q));
      apart = λ clash. c.in_ok-check.ensures.1 (clash_alike (tabled p q ranks) (tabled p q bytes) alike clash);
    }

pub returns : goal.returns
returns c =
    let sized = c.in_ok-check.ensures.0 in
    record {
      sized = sized;
      apart = c.in_ok-check.ensures.1;
      made = table_plan_alike c.args.rows c.args.columns c.args.bytes.now c.padded-ranks.result sized c.padded-ranks.ensures;
    }
