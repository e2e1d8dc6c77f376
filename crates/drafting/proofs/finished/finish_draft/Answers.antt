use Rattle.std.proofs.Common.{ap}
use Rattle.quantiser.specs.Threshold.{by_threshold}
use Rattle.job.specs.Meaning.{band}
use Rattle.drafting.proofs.DraftCodes.{finished_by}
use Rattle.drafting.proofs.finished.finish_draft.Goals as goal

pub returns : goal.returns
returns c =
    let size = c.args.size.now in
    let made = c.new-job.ensures in
    finished_by size.rows size.columns _ _ _ _ c.args.drawing.now
    (band c.args.codes.now c.args.amounts.now) (band c.open_bands.new.codes c.open_bands.new.amounts) (band c.finish.new.codes c.finish.new.amounts) _
    (record { tall = size.tall; low = size.low; wide = size.wide; narrow = size.narrow; small = size.small })
    c.requires.drawing c.requires.amounts c.requires.codes
    c.open_bands.ensures.number (ap (λ s. s.rows) made.size) (ap (λ s. s.columns) made.size) (ap by_threshold made.quantiser) c.open_bands.ensures.bands c.finish.ensures
