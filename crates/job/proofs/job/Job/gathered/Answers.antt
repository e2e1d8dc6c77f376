use Rattle.std.proofs.Common.{◌≡◌, ℕ, ◌*◌, ◌<◌, get_or, subst, rules, sym, ap, ◌∙◌, mul_comm, arith}
use Rattle.std.proofs.lemmas.Nat.{mul-add-lt}
use Rattle.grid.specs.Directions.{number_of, down, across}
use Rattle.grid.specs.Lines.{plain, step}
use Rattle.job.specs.Meaning.{squares_of}
use Rattle.job.specs.Patterns.{kind_of, kind_at}
use Rattle.job.specs.declared.kind.Kind.{Kind}
use Rattle.job.specs.declared.kind.Kind.TheVariants.{Neither}
use Rattle.job.proofs.Eight.{nth, numbered}
use Rattle.plan.proofs.Made.{each_made}
use Rattle.job.proofs.Around.{kind_here, weights-told, last-told}
use Rattle.job.proofs.job.Job.gathered.Goals as goal

pub returns : goal.returns
returns g c =
    let j = c.args.self.now in
    let rows = j.size.rows in
    let columns = j.size.columns in
    let plan = g.P.Plan.meaning j.plan in
    let law = g.met.P.Plan.lawful j.plan in
    let row = c.args.square.row in
    let column = c.args.square.column in
    let squares = squares_of g.P.Plan.meaning j in
    let s = c.args.square.place in
    let at = c.requires.place in
    let inside : s < rows * columns = omega (arith, at, mul-add-lt row columns column rows c.requires.row c.requires.column, mul_comm rows columns) in
    let ks = c.from_fn-kinds.result in
    let one : (d : ℕ) (k : Kind) → k ≡ kind_at plan c.rank-own.result (step (plain rows) (down d) row) (step (plain columns) (across d) column) → k ≡ kind_of squares s d
    = λ d k e. e ∙ ap (λ own. kind_at plan own (step (plain rows) (down d) row) (step (plain columns) (across d) column)) c.rank-own.ensures
    ∙ sym (kind_here rows columns plan law row column d c.requires.row c.requires.column) ∙ ap (λ t. kind_of squares t d) (sym at) in
    let kinds : (d : ℕ) → d < 8 → get_or ks d Neither ≡ kind_of squares s d
    = λ d low.
    one d _ (
    subst (λ n. get_or ks d Neither ≡ kind_at plan c.rank-own.result (step (plain rows) (down n) row) (step (plain columns) (across n) column)) (numbered d low)
    (each_made _ (λ n k. k ≡ kind_at plan c.rank-own.result (step (plain rows) (down (number_of (nth n))) row) (step (plain columns) (across (number_of (nth n))) column))
    _ (λ i y q k. search rules) ks 0 8 c.from_fn-kinds.ensures.items.each d Neither (omega arith) low)
    ) in
    record {
      inside = inside;
      kinds = kinds;
      weights = c.weights_of-weights.ensures ∙ weights-told rows columns plan law s inside ks kinds 8 (omega arith);
      last = c.last_of-last.ensures ∙ last-told rows columns plan law s inside ks kinds 8 (omega arith);
    }
