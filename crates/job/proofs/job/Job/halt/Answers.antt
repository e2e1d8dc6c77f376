use Rattle.std.proofs.Common.{◌≡◌, ◌+◌, ◌-◌, true, length, drop, sym, ap, ◌∙◌, arith}
use Rattle.bits.specs.Bits.{fixed, bytes_for, packed}
use Rattle.bits.proofs.Binary.{length-packed}
use Rattle.model.specs.Calls.{wrote}
use Rattle.model.specs.Calls.Answer.{Refused}
use Rattle.model.specs.Jobs.{fits}
use Rattle.model.specs.Records.{bit_map, record_of}
use Rattle.job.specs.Meaning.{meant, band}
use Rattle.job.proofs.Kept.{length_record}
use Rattle.job.proofs.Outputs.{write_short, write_whole}
use Rattle.job.proofs.Parts.{part_long, three_parts, same_parts}
use Rattle.job.proofs.job.Job.halt.Goals as goal

pub returns-then-out-total : goal.returns-then-out-total
returns-then-out-total g c =
    let j = c.args.self.now in
    let codes = c.args.codes.now in
    let p = meant g.Q.Tone.Tone.algebra g.P.Plan.meaning g.Q.Quantiser.tables j c.args.drawing.now in
    let b = band codes c.args.amounts.now in
    let is : fits p b ≡ true = sym c.lengths_match.ensures ∙ c.if-not-lengths_match.false in
    let long = length_record j.size.rows j.size.columns codes in
    let count = c.count_fixed.ensures.value in
    write_short (fits p b) is (record_of j.size.rows j.size.columns codes) c.args.out.now (wrote (Refused 2) c.args.out.now) (omega (arith, long, count))

pub returns : goal.returns
returns g c =
    let j = c.args.self.now in
    let rows = j.size.rows in
    let columns = j.size.columns in
    let codes = c.args.codes.now in
    let out = c.args.out.now in
    let p = meant g.Q.Tone.Tone.algebra g.P.Plan.meaning g.Q.Quantiser.tables j c.args.drawing.now in
    let b = band codes c.args.amounts.now in
    let is : fits p b ≡ true = sym c.lengths_match.ensures ∙ c.if-not-lengths_match.false in
    let long = length_record rows columns codes in
    let count = c.count_fixed.ensures.value in
    let start = c.codes_start-start.result in
    let total = start + c.count_fixed.result in
    let ds = c.copy_from_slice.ensures.after ∙ c.size_bytes.ensures in
    let bs = c.pack_row.ensures in
    let cs = c.put_codes.ensures in
    let lent = part_long out c.copy_from_slice.new.self 4 (start - 4) (bytes_for (length codes)) (ap length ds) (omega arith) (omega arith) in
    let full : c.pack_row.new.out ≡ bit_map codes = bs ∙ ap (λ n. packed fixed n codes) lent in
    let map_long : length c.pack_row.new.out ≡ bytes_for (length codes) = ap length full ∙ length-packed fixed (bytes_for (length codes)) codes in
    write_whole (fits p b) is (record_of rows columns codes) out (wrote (Refused 2) out) total _ (omega (arith, long, count)) (omega arith)
    (three_parts out c.copy_from_slice.new.self c.pack_row.new.out c.put_codes.new.out 4 start total (4 - 0) (start - 4) (total - start)
    (ap length ds) (omega arith) (omega (arith, map_long)) (omega (arith, map_long)) (omega (arith, ap length cs, count)) (omega (arith, ap length cs, count)) (omega arith)
    ∙ same_parts (drop total out) ds full cs)
