use Rattle.std.proofs.Common.{◌/◌, length, get_or, [], ap, ◌∙◌, arith}
use Rattle.std.proofs.lemmas.Bool.Decides.{nat_tests}
use Rattle.quantiser.specs.Palette.{entry_at}
use Rattle.quantiser.proofs.Threes.{entry-three}
use Rattle.quantiser.proofs.palette.Palette.write.Goals as goal

pub returns : goal.returns
returns c =
    let bytes = c.args.bytes.now in
    let front = c.as_chunks.ensures.front in (
      record { triples = grind (arith, nat_tests); some = grind (arith, nat_tests); few = grind (arith, nat_tests) },
      record {
        len = c.as_chunks.ensures.front_len;
        colours = λ k h. c.entries_of.ensures.colours k (omega arith) ∙ ap (λ l. entry_at (get_or l k []) 0) front ∙ entry-three (length bytes / 3) k bytes h;
      },
    )
