use Rattle.std.proofs.Common.{ℕ, get_or, [], rules}
use Rattle.quantiser.specs.Palette.{black, entry_at}
use Rattle.quantiser.specs.declared.palette.Entry.{Entry}
use Rattle.quantiser.proofs.Filled.{filled}
use Rattle.quantiser.proofs.palette.write.entries_of.Goals as goal

pub returns-clause-colours : goal.returns-clause-colours
returns-clause-colours c =
    let h : ℕ → Entry = λ k. entry_at (get_or c.args.threes.now k []) 0 in
    λ k l. filled _ _ h (λ x r g k. search rules) c.from_fn.result 16 c.from_fn.ensures.items k black l
