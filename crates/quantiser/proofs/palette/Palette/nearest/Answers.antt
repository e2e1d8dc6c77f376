use Rattle.std.proofs.Common.{◌≡◌, ℕ, sym, ◌∙◌, subst, rules}
use Rattle.quantiser.specs.Least.{least, FirstSmallest}
use Rattle.quantiser.specs.Palette.{distance, entry_of}
use Rattle.quantiser.specs.Smallest.{least_is}
use Rattle.quantiser.proofs.Picked.{picked}
use Rattle.quantiser.proofs.palette.Palette.nearest.Goals as goal

pub returns : goal.returns
returns c =
    let p = c.args.self.now in
    let f : ℕ → ℕ = λ k. distance c.args.tone (entry_of p k) in
    let is : c.unwrap_or.result ≡ least f p.len = c.unwrap_or.ensures ∙ picked _ _ f (λ x r g k. search rules) p.len c.min_by_key.result p.some c.min_by_key.ensures.ran in
    record { value = is; relation = subst (FirstSmallest f p.len) (sym is) (least_is f p.len p.some) }
