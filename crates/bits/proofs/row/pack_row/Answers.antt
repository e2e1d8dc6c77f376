use Rattle.std.proofs.Common.{◌≡◌, ℕ, ◌*◌, length, drop, arith}
use Rattle.std.proofs.lemmas.List.FromFn.{fill_by_all}
use Rattle.bits.specs.Bits.{byte_of}
use Rattle.bits.proofs.row.pack_row.Goals as goal

pub returns : goal.returns
returns g c =
    let n = length c.args.out.now in
    let f : ℕ → ℕ = λ k. byte_of g.M.Mark.marks (drop (8 * k) c.args.codes.now) in
    let long : length c.loop-b.out ≡ n = omega arith in
    fill_by_all f c.loop-b.out n 0 long (λ k h. c.loop-b.invariant k (omega arith))
