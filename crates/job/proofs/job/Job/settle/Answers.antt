use Rattle.std.proofs.Common.{◌<◌, length, sym, refl, arith, rules}
use Rattle.std.proofs.lemmas.List.{get_or_default}
use Rattle.diffusion.specs.Bands.{standing}
use Rattle.job.specs.Meaning.{setting_by, band}
use Rattle.job.proofs.Attempts.{standing_open, standing-fixed, attempt_refused}
use Rattle.job.proofs.Refusing.{refused_fixed, refused_waiting, not_refused}
use Rattle.job.proofs.Taking.{attempt-taken}
use Rattle.job.proofs.job.Job.settle.Goals as goal

pub returns-then-codes-place : goal.returns-then-codes-place
returns-then-codes-place g c =
    let j = setting_by g.Q.Tone.Tone.algebra g.P.Plan.meaning g.Q.Quantiser.tables c.args.self.now in
    let codes = c.args.codes.now in
    let s = c.args.place in
    let inside : s < length codes = omega arith in
    attempt_refused j s (band codes c.args.amounts.now) 3
    (refused_fixed j.squares (standing codes) s c.requires.pattern.inside (standing-fixed codes s inside c.if-codes-place.true))

pub returns-then-not-is_ready : goal.returns-then-not-is_ready
returns-then-not-is_ready g c =
    let j = setting_by g.Q.Tone.Tone.algebra g.P.Plan.meaning g.Q.Quantiser.tables c.args.self.now in
    let codes = c.args.codes.now in
    let s = c.args.place in
    let inside : s < length codes = omega arith in
    attempt_refused j s (band codes c.args.amounts.now) 4
    (refused_waiting j.squares (standing codes) s c.requires.pattern.inside (standing_open codes s inside c.if-codes-place.false) (sym (c.if-not-is_ready.ensures (standing codes) (λ t r l p. let same = get_or_default codes t 0 255 (omega arith) in search (rules, same)))))

pub returns : goal.returns
returns g c =
    let j = setting_by g.Q.Tone.Tone.algebra g.P.Plan.meaning g.Q.Quantiser.tables c.args.self.now in
    let codes = c.args.codes.now in
    let s = c.args.place in
    let inside : s < length codes = omega arith in
    let is_open = standing_open codes s inside c.if-codes-place.false in
    attempt-taken j s (band codes c.args.amounts.now) c.take.result _ (band c.take.new.codes c.take.new.amounts) inside is_open
    (not_refused j.squares (standing codes) s c.requires.pattern.inside is_open (sym (c.if-not-is_ready.ensures (standing codes) (λ t r l p. let same = get_or_default codes t 0 255 (omega arith) in search (rules, same))))) c.take.ensures.after refl
