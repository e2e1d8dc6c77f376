-- The codes of a finished draft: from Open and Finish to the definition.
use Rattle.std.proofs.Common.{◌≡◌, ℕ, ◌*◌, ◌<◌, ◌≤◌, Bool, true, false, cond, ◌&&◌, eqb, List, length, pos, refl, ap, ◌∙◌, arith}
use lib.Signed.{le_z}
use Rattle.std.proofs.lemmas.List.FromFn.{length-map-range_with_len}
use Rattle.std.proofs.lemmas.Bool.{cond-true, cond-false, eq-eqb, ne_eqb, and_from}
use Rattle.tone.specs.Grey.{no_grey, grey_algebra}
use Rattle.tone.specs.declared.grey.Grey.{Grey}
use Rattle.tone.specs.GreyLaws.{grey_lawful}
use Rattle.plan.specs.Knuth.{knuth_plan}
use Rattle.plan.specs.TableLaws.{knuth_lawful}
use Rattle.quantiser.specs.Tables.{Tables, Sound}
use Rattle.quantiser.specs.Threshold.{by_threshold}
use Rattle.grid.specs.Limits.{Within, within}
use Rattle.grid.proofs.Deciding.{within_true}
use Rattle.diffusion.specs.Bands.{Bands, code_at}
use Rattle.diffusion.specs.Draft.{amount, code}
use Rattle.diffusion.specs.Sets.{every, none}
use Rattle.diffusion.specs.Theorems.{Alike}
use Rattle.diffusion.proofs.Lines.{lawful_drawing}
use Rattle.diffusion.proofs.SameDraft.{same_draft}
use Rattle.model.specs.Calls.{Answer, told}
use Rattle.model.specs.Jobs.{Job, job_of}
use Rattle.model.specs.Openings.{open_refusal, unless, opened_on}
use Rattle.model.specs.Steps.{finish_on}
use Rattle.model.proofs.Agreed.{agrees}
use Rattle.model.proofs.Opened.{lawful_job, opened_on-none}
use Rattle.drafting.specs.Drafts.{knuth_setting, codes_of, finished}

-- the threshold of every draft here
abbrev pub tables : Tables Grey
tables = by_threshold (record { least = pos 128 })

one_or_zero : (b : Bool) → cond b 1 0 < 2
one_or_zero true = omega arith
one_or_zero false = omega arith

lacks : (c : ℕ) → 2 ≤ c → tables.output c ≡ no_grey
lacks c h = cond-false _ _ _ (ne_eqb c 1 (λ e. omega arith))

pub threshold_sound : Sound grey_algebra tables
threshold_sound = record { some = omega arith; few = omega arith; within = λ x. one_or_zero (le_z (pos 128) x.value); lacking = lacks }

-- no code is above 1
pub code_low : (rows columns : ℕ) (drawing : ℕ → Grey) (s : ℕ) → code (knuth_setting rows columns drawing) s ≤ 1
code_low rows columns drawing s = omega (arith, threshold_sound.within (amount (knuth_setting rows columns drawing) s))

pub length-codes : (rows columns : ℕ) (drawing : ℕ → Grey) → length (codes_of rows columns drawing) ≡ rows * columns
length-codes rows columns drawing = length-map-range_with_len (code (knuth_setting rows columns drawing)) 0 (rows * columns)

-- drawings with the same tones have the same codes
pub codes_same : (rows columns : ℕ) (f g : ℕ → Grey) → ((s : ℕ) → s < rows * columns → f s ≡ g s) → codes_of rows columns f ≡ codes_of rows columns g
unfolding code_at
codes_same rows columns f g same =
    let law = (lawful_drawing grey_algebra grey_lawful knuth_plan knuth_lawful tables threshold_sound).lawful rows columns f in
    let alike : Alike (knuth_setting rows columns f) (knuth_setting rows columns g) =
    record {
      algebra = refl;
      count = refl;
      near = λ s d l ld. refl;
      order = λ s d t l ld e h. h;
      choice = λ x. refl;
      output = λ c. refl;
      drawing = same;
    } in
    ap (λ b. b.codes) ((same_draft (knuth_setting rows columns f) (knuth_setting rows columns g) law.squares alike).bands every)

-- what Finish makes of the bands of a new job
pub finish_gives : (rows columns : ℕ) (drawing : List Grey) (b after : Bands Grey) (answer : Answer Grey) → length drawing ≡ rows * columns → length b.codes ≡ rows * columns
    → told answer after ≡ finish_on (job_of grey_algebra rows columns knuth_plan tables drawing) (opened_on drawing b) → after.codes ≡ finished rows columns drawing
unfolding code_at
finish_gives rows columns drawing b after answer long codes_long e =
    let p : Job Grey = job_of grey_algebra rows columns knuth_plan tables drawing in
    let law = lawful_job grey_algebra rows columns knuth_plan tables drawing grey_lawful knuth_lawful threshold_sound long in
    let new = opened_on-none grey_algebra rows columns knuth_plan tables drawing grey_lawful knuth_lawful threshold_sound b long codes_long in
    ap (λ t. t.state.codes) (e ∙ ap (finish_on p) new ∙ (agrees p law none (λ s d t l ld h q. h)).finish)

-- Open takes the size of a drawing, and bands as long as it has squares
pub opens : (rows columns d a c : ℕ) → Within rows columns → d ≡ rows * columns → a ≡ rows * columns → c ≡ rows * columns → open_refusal rows columns d a c ≡ 0
opens rows columns d a c size ed ea ec =
    cond-true (within rows columns) _ 1 (within_true rows columns size)
    ∙ cond-true (eqb d (rows * columns) && (eqb a (rows * columns) && eqb c (rows * columns))) 0 2 (and_from _ _ (eq-eqb d _ ed) (and_from _ _ (eq-eqb a _ ea) (eq-eqb c _ ec)))

-- the same from what the opening of the bands tells, and the size and the quantiser that the job keeps
pub finished_by : (rows columns number r c : ℕ) (ts : Tables Grey) (drawing : List Grey) (b start after : Bands Grey) (answer : Answer Grey)
    → Within rows columns → length drawing ≡ rows * columns → length b.amounts ≡ rows * columns → length b.codes ≡ rows * columns
    → number ≡ open_refusal rows columns (length drawing) (length b.amounts) (length b.codes)
    → r ≡ rows → c ≡ columns → ts ≡ tables → start ≡ unless number (opened_on drawing b) b
    → told answer after ≡ finish_on (job_of grey_algebra r c knuth_plan ts drawing) start → after.codes ≡ finished rows columns drawing
finished_by rows columns number r c ts drawing b start after answer size ld la lc is er ec et eb e =
    let none-refused : number ≡ 0 = is ∙ opens rows columns (length drawing) (length b.amounts) (length b.codes) size ld la lc in
    finish_gives rows columns drawing b after answer ld lc
    (e ∙ (λ i. finish_on (job_of grey_algebra (er i) (ec i) knuth_plan (et i) drawing) start)
    ∙ ap (finish_on (job_of grey_algebra rows columns knuth_plan tables drawing)) (eb ∙ ap (λ n. unless n (opened_on drawing b) b) none-refused))
