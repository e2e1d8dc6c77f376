use Rattle.std.proofs.Common.{◌≡◌, ℕ, List, Result, Ok, Err, sym, ap, ◌∙◌, Some, MatchResult}
use Rattle.netpbm.specs.Pgm.{told_by, read_fault, DrawingRead}
use Rattle.netpbm.specs.declared.fault.Fault.{Fault}
use Rattle.netpbm.specs.declared.reading.Picture.{Picture}
use Rattle.controller.specs.Readings.{reading, read_told, read_answer}
use Rattle.controller.proofs.read.sumbelgo_read.Goals as goal

-- as numbers it is the promised answer
told_right : (input : List ℕ) (room : ℕ) (read : Result Picture Fault) → MatchResult read (λ p. DrawingRead input room p.size.rows p.size.columns p.end) (λ f. read_fault input room ≡ Some (told_by f)) → read_told read ≡ read_answer input (read_fault input room)
told_right input room (Ok p) e = (λ i. reading (e.1 i) (e.2 i) (e.3 i) 0 0) ∙ sym (ap (read_answer input) e.0)
told_right input room (Err f) e = sym (ap (read_answer input) e)

pub returns : goal.returns
returns c =
    record {
      answer = c.from.ensures ∙ told_right c.args.input.now _ c.read_pgm.result c.read_pgm.ensures.answer;
      band = c.read_pgm.ensures.band;
    }
