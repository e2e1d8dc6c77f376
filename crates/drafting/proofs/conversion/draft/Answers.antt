use Rattle.std.proofs.Common.{subst, sym, arith}
use Rattle.grid.specs.Limits.{Within}
use Rattle.drafting.specs.Drafts.{Drafts, NotTooShort}
use Rattle.drafting.proofs.Converted.{told, roomy}
use Rattle.drafting.proofs.conversion.draft.Goals as goal

pub returns-clause-drafts : goal.returns-clause-drafts
returns-clause-drafts c =
    let size = c.in_ok-size.field-0.size in
    let read = c.in_ok-size.ensures.answer in
    let packed =
    told c.args.input.now c.read_pgm.new.band _ size.rows size.columns _ c.squares.result read c.read_pgm.ensures.band (omega arith)
    c.args.out.now c.write_draft.new.out c.write_draft.result (omega arith) c.write_draft.ensures
    in
    subst (λ q. Drafts c.args.input.now c.args.out.now q c.write_draft.new.out) (sym c.or.ensures) packed

pub returns-clause-enough : goal.returns-clause-enough
returns-clause-enough c = λ room.
    let size = c.in_ok-size.field-0.size in
    let read = c.in_ok-size.ensures.answer in
    let limits : Within size.rows size.columns = record { tall = size.tall; low = size.low; wide = size.wide; narrow = size.narrow; small = size.small } in
    let enough =
    roomy c.args.input.now c.read_pgm.new.band _ size.rows size.columns _ c.squares.result read c.read_pgm.ensures.band (omega arith)
    c.args.out.now c.write_draft.new.out c.write_draft.result limits c.write_draft.ensures room
    in
    subst NotTooShort (sym c.or.ensures) enough
