use Rattle.std.proofs.Common.{◌≡◌, ◌+◌, ◌*◌, ◌++◌, take, drop, None, sym, refl, ap, ◌∙◌, subst₂, arith}
use Rattle.std.proofs.lemmas.List.{set-get_or, length-take-le}
use Rattle.std.proofs.lemmas.Result.{err_from_is_err_and}
use Rattle.netpbm.specs.Words.{after}
use Rattle.netpbm.specs.Pgm.{sample_fault, SampleRead, first_fault}
use Rattle.netpbm.proofs.Faults.{fault_of, fault_more, fault_stays, sound_all, band_more, front_filled, sample_fault_is, tone_is, next_is}
use Rattle.netpbm.proofs.samples.read_samples.Goals as goal

pub loop-tone-init : goal.loop-tone-init
unfolding first_fault
loop-tone-init c = record { place = c.requires.position; clean = refl; front = refl; back = refl }

pub loop-tone-preserved : goal.loop-tone-preserved
loop-tone-preserved c =
    let input = c.args.reader.now.input.now in
    let i = c.loop-tone.tone-index in
    let inv = c.loop-tone.invariant in
    let old = take c.squares.result c.args.band.now in
    let got = subst₂ (λ xs at. SampleRead xs c.args.head.greatest at c.in_ok-sample.sample.value c.in_ok-sample.sample.end) c.at.ensures.input c.at.ensures.position c.in_ok-sample.ensures in
    let good : fault_of input i ≡ None = sym (sample_fault_is input _ _ i c.requires.greatest inv.place) ∙ got.0 in
    let is = tone_is input _ i _ c.tone_of.result inv.place got.1 c.tone_of.ensures in
    let more = band_more input c.loop-tone.tone-items old i c.tone_of.result (omega arith) is inv.front inv.back in
    record {
      place = next_is input _ i _ inv.place got.2;
      clean = fault_more input i None inv.clean good;
      front = more.0;
      back = more.1;
    }

pub returns-in_err-sample : goal.returns-in_err-sample
returns-in_err-sample c =
    let input = c.args.reader.now.input.now in
    let items = c.loop-tone.tone-items in
    let i = c.loop-tone.tone-index in
    let inv = c.loop-tone.invariant in
    let count = c.args.head.size.rows * c.args.head.size.columns in
    let old = c.args.band.now in
    let many = c.squares.ensures.value in
    let long = length-take-le c.squares.result old (omega (arith, many, c.requires.room)) in
    let bad = sym (sample_fault_is input _ _ i c.requires.greatest inv.place)
    ∙ sym (λ j. sample_fault (c.at.ensures.input j) c.args.head.greatest (c.at.ensures.position j)) ∙ c.in_err-sample.ensures in
    let stays = fault_stays input i _ inv.clean bad count (omega (arith, many, long)) in
    let p = err_from_is_err_and c.from_residual.result c.from_residual.ensures.1 in
    let same = set-get_or items i 0 in
    record {
      fault = rw (p.1, p.2) stays.0;
      band = ap (λ xs. xs ++ drop c.squares.result old) same
          ∙ front_filled input items old i _ c.squares.result stays.1 (omega (arith, many, long)) (omega (arith, many, c.requires.room)) inv.front inv.back;
    }

pub returns : goal.returns
returns c =
    let input = c.args.reader.now.input.now in
    let items = c.loop-tone.tone-items in
    let inv = c.loop-tone.invariant in
    let count = c.args.head.size.rows * c.args.head.size.columns in
    let old = c.args.band.now in
    let many = c.squares.ensures.value in
    let long = length-take-le c.squares.result old (omega (arith, many, c.requires.room)) in
    let e : c.loop-tone.tone-index ≡ count = omega (arith, many, long) in
    let clean : first_fault input count ≡ None = ap (first_fault input) (sym e) ∙ inv.clean in
    record {
      fault = (clean, inv.place ∙ ap (λ k. after input (3 + k)) e);
      band = front_filled input items old c.loop-tone.tone-index _ c.squares.result (sound_all input count clean ∙ sym e)
          (omega (arith, many, long)) (omega (arith, many, c.requires.room)) inv.front inv.back;
    }
