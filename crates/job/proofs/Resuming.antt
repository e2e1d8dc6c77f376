-- Resume by its outcome: each refusal, and the job that is brought back.
use Rattle.std.proofs.Common.{◌≡◌, ℕ, suc, ◌*◌, true, false, List, length, get_or, replicate, Some, Result, is_ok, sym, ap, ◌∙◌, inl, inr}
use Rattle.std.proofs.lemmas.Bool.{cases_eq, cond-true}
use Rattle.refusal.specs.declared.refusal.Refusal.{Refusal}
use Rattle.tone.specs.Algebra.{Algebra}
use Rattle.tone.specs.Algebra as tones
use Rattle.plan.specs.Ranks.{Ranks}
use Rattle.plan.specs.Ranks as plans
use Rattle.quantiser.specs.Tables.{Tables, Sound}
use Rattle.diffusion.specs.Bands.{Bands, bands, opened}
use Rattle.diffusion.specs.Draft.{Setting}
use Rattle.diffusion.specs.Drawings.{setting_of}
use Rattle.diffusion.specs.Sets.{none}
use Rattle.model.specs.Calls.{told, resume_at}
use Rattle.model.specs.Calls.Answer.{Resumed, Refused}
use Rattle.model.specs.Jobs.{Job, fits, job_of}
use Rattle.model.specs.Records.{stands, well_formed, closed_by, record_refusal}
use Rattle.model.specs.Replays.{codes_in, replay}
use Rattle.model.specs.Steps.{resume_on}
use Rattle.model.specs.Theorems.{Resumes}
use Rattle.model.proofs.OneMore.{refusal_of_form, refusal_of_closedness}
use Rattle.model.proofs.Opened.{lawful_job, opened_on_is, opened_on-none}
use Rattle.model.proofs.Resumed.{resumes}
use Rattle.job.specs.Coded.{EachCoded}
use Rattle.job.specs.Meaning.{band}
use Rattle.job.specs.Worked.{Reworked}
use Rattle.job.proofs.Fitting.{Fitting, fitting}
use Rattle.job.proofs.Working.{replay-same}

module _ {T : Type 0} (tone : Algebra T) (rows columns : ℕ) (plan : Ranks) (tables : Tables T) (drawing : List T) (rec : List ℕ) (b : Bands T) where
  -- the job, and its setting on a drawing of zeros
  abbrev p : Job T
  p = job_of tone rows columns plan tables drawing

  abbrev plain : Setting T
  plain = setting_of tone rows columns plan tables (λ s. tone.zero)

  -- bands that fit, by the record's refusal
  by_refusal : (n : ℕ) → fits p b ≡ true → record_refusal p rec ≡ n → resume_at n (bands p.setting (stands rec)) (bands p.setting none) b ≡ resume_on p rec b
  by_refusal n fit e =
      sym (cond-true (fits p b) (resume_at (record_refusal p rec) (bands p.setting (stands rec)) (bands p.setting none) b) (told (Refused 2) b) fit
      ∙ ap (λ k. resume_at k (bands p.setting (stands rec)) (bands p.setting none) b) e)

  -- another size, a spare bit or another length: the bands stay
  pub refused_form : fits p b ≡ true → well_formed p rec ≡ false → told (Refused 7) b ≡ resume_on p rec b
  refused_form fit e = by_refusal 7 fit (refusal_of_form p rec e)

  -- a standing square with a lower neighbour that does not stand: the bands stay
  pub refused_map : fits p b ≡ true → well_formed p rec ≡ true → closed_by p.setting.squares (stands rec) ≡ false → told (Refused 8) b ≡ resume_on p rec b
  refused_map fit formed e = by_refusal 8 fit (refusal_of_closedness p rec formed e)

  module _ (tl : tones.Lawful tone) (pl : plans.Lawful plan) (sound : Sound tone tables)
      (fit : fits p b ≡ true) (formed : well_formed p rec ≡ true) (closed : closed_by p.setting.squares (stands rec) ≡ true) where
    -- each band and the drawing are as long as there are squares
    lengths : Fitting p b
    lengths = fitting p b fit

    -- what the definition makes of the record, by a replay of its codes
    judged : Resumes p rec
    judged = resumes p (lawful_job tone rows columns plan tables drawing tl pl sound lengths.drawing) rec formed closed

    -- the replay of the code starts at the drawing itself
    replay_is : (cs : List ℕ) (r : ℕ) → replay p.setting cs (Some (opened p.setting).amounts) r ≡ replay plain cs (Some drawing) r
    replay_is cs r =
        ap (λ (x : Bands T). replay p.setting cs (Some x.amounts) r) (sym (opened_on_is tone rows columns plan tables drawing b lengths.drawing lengths.codes))
        ∙ replay-same tone rows columns plan tables (λ s. get_or drawing s tone.zero) (λ s. tone.zero) cs (Some drawing) r

    -- the bands are those of just the standing squares
    pub accepted : (cs : List ℕ) (xs : List T) (r : Result (Unit {0}) Refusal) → is_ok r ≡ true → Reworked plain plan.top drawing rec r cs xs → told Resumed (band cs xs) ≡ resume_on p rec b
    accepted cs xs r right w =
        let k = judged.some (w.each right) xs (replay_is (codes_in (rows * columns) rec) (suc plan.top) ∙ w.amounts_are right) in
        ap (λ ds. told Resumed (band ds xs)) (w.codes_are right) ∙ ap (told Resumed) (sym k.1) ∙ by_refusal 0 fit k.0

    -- a code that is not the definition's
    nine : (cs : List ℕ) (xs : List T) (r : Result (Unit {0}) Refusal) → is_ok r ≡ false → Reworked plain plan.top drawing rec r cs xs → record_refusal p rec ≡ 9
    nine cs xs r wrong w = elim (cases_eq (record_refusal p rec) 9) [
      | inl e ↦ e
      | inr ne ↦
          (let each : EachCoded (rows * columns) rec = λ s l t e. ne (judged.full s l t e) in
          judged.wrong each (replay_is (codes_in (rows * columns) rec) (suc plan.top) ∙ w.failed wrong each))
    ]

    -- every square is open, and holds the drawing's tone
    pub refused_code : (cs : List ℕ) (xs : List T) (r : Result (Unit {0}) Refusal) → is_ok r ≡ false → Reworked plain plan.top drawing rec r cs xs
        → (ds : List ℕ) (ys : List T) → ds ≡ replicate (length b.codes) 255 → ys ≡ drawing → told (Refused 9) (band ds ys) ≡ resume_on p rec b
    refused_code cs xs r wrong w ds ys ds_are ys_are =
        (λ i. told (Refused 9) (band (ds_are i) (ys_are i)))
        ∙ ap (told (Refused 9)) (opened_on-none tone rows columns plan tables drawing tl pl sound b lengths.drawing lengths.codes)
        ∙ by_refusal 9 fit (nine cs xs r wrong w)
