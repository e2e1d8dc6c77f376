use Rattle.std.proofs.Common.{ap, ◌∙◌, subst}
use Rattle.netpbm.specs.Pbm.{Packs}
use Rattle.drafting.specs.Drafts.{finished}
use Rattle.drafting.proofs.conversion.write_draft.Goals as goal

pub returns : goal.returns
returns c =
    let rows = c.args.size.now.rows in
    let columns = c.args.size.now.columns in
    subst (λ codes. Packs rows columns codes c.args.out.now c.pack.result c.pack.new.out)
    (c.finish_draft.ensures ∙ ap (finished rows columns) c.put_greys.ensures) c.pack.ensures
