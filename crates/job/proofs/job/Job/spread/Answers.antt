use Rattle.std.proofs.Common.{◌≡◌, ◌+◌, ◌%◌, ◌≤◌, cond, eqb, List, get_or, set, sym, ap, ◌∙◌, subst, arith, rules}
use Rattle.tone.specs.Sums.{total}
use Rattle.grid.specs.Directions.{number_of}
use Rattle.diffusion.specs.Bands.{spread}
use Rattle.tone.proofs.Totals.{total-none}
use Rattle.diffusion.specs.Draft.{sends, shared_before}
use Rattle.diffusion.specs.Neighbourhoods.{last}
use Rattle.job.specs.Meaning.{squares_of}
use Rattle.job.specs.Patterns.{beside, last_number}
use Rattle.job.specs.declared.kind.Kind.TheVariants.{Neither, Higher}
use Rattle.job.proofs.Parting.{spread_none, spread_nowhere, none_higher, Handed, worked_part, hand_higher, hand_other}
use Rattle.job.proofs.Eight.{nth, numbered}
use Rattle.job.proofs.Around.{higher_some, higher_not, higher-inside}
use Rattle.job.proofs.job.Job.spread.Goals as goal
use Rattle.job.proofs.job.Job.spread.Goals.{then-eq, else-eq}

pub returns-in_default : goal.returns-in_default
returns-in_default g c =
    let tone = g.Q.Tone.Tone.algebra in
    let squares = squares_of g.P.Plan.meaning c.args.self.now in
    let none = none_higher squares c.args.place 8 (omega arith) (sym c.requires.pattern.last ∙ ap last_number c.in_default.is) in
    sym (spread_nowhere tone squares c.args.place (sends tone squares c.args.place c.args.error) c.args.amounts.now 8 none)

pub loop-direction-init : goal.loop-direction-init
loop-direction-init g c =
    let tone = g.Q.Tone.Tone.algebra in
    let squares = squares_of g.P.Plan.meaning c.args.self.now in (
      λ h. c.zero-given.ensures ∙ sym (total-none tone (shared_before tone squares c.args.place c.args.error)),
      sym (spread_none tone squares c.args.place (sends tone squares c.args.place c.args.error) c.args.amounts.now),
    )

pub add-requires : goal.add-requires
add-requires g c =
    let j = c.args.self.now in
    let d = c.loop-direction.direction-index in
    let ks = c.args.pattern.now.kinds in
    let is : number_of (nth d) ≡ d = numbered d c.loop-direction-test.true in
    let beside-is : c.place_beside.result ≡ beside j.size.columns c.args.place d = c.place_beside.ensures ∙ ap (beside j.size.columns c.args.place) is in
    let higher : c.kind.result ≡ Higher = search (rules, c.if-eq.ensures) in
    let kind-is = sym (c.kind.ensures ∙ ap (λ n. get_or ks n Neither) is) ∙ higher in
    omega (arith, beside-is, higher-inside j.size.rows j.size.columns (g.P.Plan.meaning j.plan) (g.met.P.Plan.lawful j.plan) c.args.place c.requires.pattern.inside ks c.requires.pattern.kinds d c.loop-direction-test.true kind-is, c.loop-direction.auto.amounts)

pub loop-direction-preserved : goal.loop-direction-preserved
loop-direction-preserved g c =
    let j = c.args.self.now in
    let tone = g.Q.Tone.Tone.algebra in
    let laws = g.met.Q.Tone.Tone.lawful in
    let plan = g.P.Plan.meaning j.plan in
    let law = g.met.P.Plan.lawful j.plan in
    let squares = squares_of g.P.Plan.meaning j in
    let s = c.args.place in
    let e = c.args.error in
    let xs = c.args.amounts.now in
    let pattern = c.args.pattern.now in
    let is_pattern = c.requires.pattern in
    let ks = pattern.kinds in
    let d = c.loop-direction.direction-index in
    let below = c.loop-direction-test.true in
    let is : number_of (nth d) ≡ d = numbered d below in
    let read : c.kind.result ≡ get_or ks d Neither = c.kind.ensures ∙ ap (λ n. get_or ks n Neither) is in
    let inv : Handed tone laws squares s e xs d c.loop-direction.given c.loop-direction.amounts
    = (λ h. c.loop-direction.invariant.0 (subst (λ l. d ≤ l) (sym is_pattern.last) h), c.loop-direction.invariant.1) in
    let back : (given : g.row.Q-Tone.Denot) (amounts : List g.row.Q-Tone.Denot) → Handed tone laws squares s e xs (d + 1) given amounts
    → (d + 1 ≤ last_number pattern.last → given ≡ total tone (shared_before tone squares s e) (d + 1)) × (amounts ≡ spread tone squares s (sends tone squares s e) (d + 1) xs)
    = λ given amounts h. (λ m. h.0 (subst (λ l. d + 1 ≤ l) is_pattern.last m), h.1) in
    elim c.if-eq.branch [
      | then-eq w ↦
          let higher : c.kind.result ≡ Higher = search (rules, w.if-eq.ensures) in
          let kind-is = sym read ∙ higher in
          let last_is : number_of c.in-Some.last ≡ last squares s 8 = ap last_number (sym c.in-Some.is) ∙ is_pattern.last in
          let left_is = w.difference.ensures in
          let side-is = c.share-side.ensures ∙ ap (tone.share e 2) is_pattern.weights in
          let corner-is = c.share-corner.ensures ∙ ap (tone.share e 1) is_pattern.weights in
          let part-is : w.part_for-part.result ≡ worked_part tone laws squares s e xs d c.loop-direction.given
          = w.part_for-part.ensures ∙ (λ i. cond (eqb (is i) (last_is i)) (left_is i) (cond (eqb (is i % 2) 0) (side-is i) (corner-is i))) in
          let beside-is : w.place_beside.result ≡ beside j.size.columns s d = w.place_beside.ensures ∙ ap (beside j.size.columns s) is in
          back c.if-eq.given c.if-eq.amounts
          (hand_higher tone laws squares s e xs d (beside j.size.columns s d) c.loop-direction.given w.part_for-part.result c.if-eq.given c.loop-direction.amounts c.if-eq.amounts below
          (higher_some j.size.rows j.size.columns plan law s is_pattern.inside ks is_pattern.kinds d below kind-is)
          inv part-is (w.given-is ∙ w.sum-given.ensures)
          (w.amounts-is ∙ w.add.ensures ∙ ap (λ t. set c.loop-direction.amounts t (tone.sum (get_or c.loop-direction.amounts t tone.zero) w.part_for-part.result)) beside-is))
      | else-eq w ↦
          back c.if-eq.given c.if-eq.amounts
          (hand_other tone laws squares s e xs d c.if-eq.given c.if-eq.amounts
          (higher_not j.size.rows j.size.columns plan law s is_pattern.inside ks is_pattern.kinds d below (λ k. (let higher : c.kind.result ≡ Higher = read ∙ k in search (rules, w.if-eq.ensures, higher))))
          (λ h. w.given-is ∙ inv.0 h, w.amounts-is ∙ inv.1))
    ]
