use Rattle.std.proofs.Common.{refl, ap, ◌∙◌, subst₂}
use Rattle.std.proofs.lemmas.Bool.{both_ways}
use Rattle.grid.specs.Limits.{Within, within}
use Rattle.grid.proofs.Deciding.{within_true, Within-from}
use Rattle.controller.specs.Exports.{answer}
use Rattle.controller.specs.Packing.{PackedAt}
use Rattle.controller.proofs.pack.sumbelgo_pack.Goals as goal

pub returns-in-Ok : goal.returns-in-Ok
returns-in-Ok c =
    let rows = c.args.rows in
    let columns = c.args.columns in
    let size = c.in-Ok.size in
    let e = c.in-Ok.ensures in
    let limits : Within size.rows size.columns = record { tall = size.tall; low = size.low; wide = size.wide; narrow = size.narrow; small = size.small } in
    let is = within_true rows columns (subst₂ (λ m n. Within m n) e.0 e.1 limits) in
    record {
      inside = λ w. subst₂ (λ m n. PackedAt m n c.args.codes.now c.args.out.now c.pack_at.result c.pack_at.new.out) e.0 e.1 c.pack_at.ensures;
      refused = λ f. absurd (both_ways (within rows columns) f is);
      kept = λ f. absurd (both_ways (within rows columns) f is);
    }

pub returns-in-Err : goal.returns-in-Err
returns-in-Err c =
    let e = c.in-Err.ensures in
    record {
      inside = λ w. absurd (e.1 (Within-from c.args.rows c.args.columns w));
      refused = λ f. c.from.ensures ∙ ap (answer 0) e.0;
      kept = λ f. refl;
    }
