use Rattle.std.proofs.Common.{w32, SFits, rules}
use Rattle.std.proofs.lemmas.Int.{wraps}
use Rattle.tone.specs.SameGrey.{same-grey}
use Rattle.tone.proofs.grey_tone.GreyTone.sum.Goals as goal

pub returns : goal.returns
returns c =
    let x : SFits w32 c.args.self.value = record { sfits = c.args.self.fits } in
    let y : SFits w32 c.args.other.value = record { sfits = c.args.other.fits } in
    same-grey (search (rules, wraps))
