use Rattle.std.proofs.Common.{◌≡◌, ◌+◌, ◌-◌, ◌*◌, refl, ap, ◌∙◌, arith, rules, tests}
use Rattle.std.proofs.lemmas.Iterator.{YieldsList-from_range}
use Rattle.std.proofs.lemmas.Iterator.Search.{all_from_yields_List}
use Rattle.bits.specs.Bits.{bytes_for}
use Rattle.model.specs.Records.{spare_clear}
use Rattle.job.proofs.Forms.{clear, clear_all}
use Rattle.job.proofs.bit_map.BitMap.is_spare_clear.Goals as goal

pub returns : goal.returns
returns c =
    let n = c.squares-squares.result in
    let m = 8 * c.div_ceil.result - n in
    let rec = c.args.self.now.bytes.now in
    let spare : n + m ≡ 8 * bytes_for n = omega arith in
    all_from_yields_List (clear rec n) _ _ _ c.all.ensures.ran (YieldsList-from_range n (8 * c.div_ceil.result) m refl refl) (λ x b q k. search (rules, tests))
    ∙ clear_all rec n m spare
    ∙ ap (λ k. spare_clear k rec) c.squares-squares.ensures.value
