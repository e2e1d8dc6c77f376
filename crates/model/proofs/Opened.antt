-- A job that is opened: it keeps the laws, its bands are those of no square, and jobs of equal meaning are alike.
use Rattle.std.proofs.Common.{◌≡◌, ℕ, ◌*◌, ◌/◌, ◌%◌, ◌<◌, List, map, length, get_or, replicate, refl, ◌∙◌, subst₂, arith}
use Rattle.std.specs.List.{range_with_len}
use Rattle.std.proofs.lemmas.List.FromFn.{fill_by_all}
use Rattle.std.proofs.lemmas.List.{length-replicate, get_or-replicate}
use Rattle.tone.specs.Algebra.{Algebra}
use Rattle.tone.specs.Algebra as tones
use Rattle.plan.specs.Ranks.{Ranks}
use Rattle.plan.specs.Ranks as plans
use Rattle.quantiser.specs.Tables.{Tables, Sound}
use Rattle.diffusion.specs.Bands.{Bands, bands, opened}
use Rattle.diffusion.specs.Sets.{none}
use Rattle.diffusion.specs.Theorems.{Alike}
use Rattle.diffusion.proofs.Lines.{lawful_drawing}
use Rattle.diffusion.proofs.SetBands.{opened_is}
use Rattle.model.specs.Jobs.{Lawful, job_of}
use Rattle.model.specs.Openings.{opened_on}

module _ {T : Type 0} (tone : Algebra T) (rows columns : ℕ) (plan : Ranks) (tables : Tables T) (drawing : List T) where
  -- the job of a lawful tone, plan and quantiser keeps the laws when the drawing is as long as it has squares
  pub lawful_job : tones.Lawful tone → plans.Lawful plan → Sound tone tables → length drawing ≡ rows * columns → Lawful (job_of tone rows columns plan tables drawing)
  lawful_job tl pl sound long =
      let k = lawful_drawing tone tl plan pl tables sound in
      record {
        setting = k.lawful rows columns (λ s. get_or drawing s tone.zero);
        size = refl;
        capped = k.capped rows columns (λ s. get_or drawing s tone.zero);
        whole = long;
      }

  -- what Open makes of bands of the right length
  pub opened_on_is : (b : Bands T) → length drawing ≡ rows * columns → length b.codes ≡ rows * columns
      → opened_on drawing b ≡ opened (job_of tone rows columns plan tables drawing).setting
  opened_on_is b long codes_long =
      let cs : replicate (length b.codes) 255 ≡ map (λ s. 255) (range_with_len 0 (rows * columns)) =
      fill_by_all (λ s. 255) (replicate (length b.codes) 255) (rows * columns) 255 (length-replicate (length b.codes) 255 ∙ codes_long)
      (λ k l. get_or-replicate (length b.codes) k 255 255 (omega arith)) in
      let sa : drawing ≡ map (λ s. get_or drawing s tone.zero) (range_with_len 0 (rows * columns)) =
      fill_by_all (λ s. get_or drawing s tone.zero) drawing (rows * columns) tone.zero long (λ k l. refl) in
      λ i. record { codes = cs i; amounts = sa i }

  -- the bands of no square
  pub opened_on-none : tones.Lawful tone → plans.Lawful plan → Sound tone tables → (b : Bands T) → length drawing ≡ rows * columns → length b.codes ≡ rows * columns
      → opened_on drawing b ≡ bands (job_of tone rows columns plan tables drawing).setting none
  opened_on-none tl pl sound b long codes_long =
      opened_on_is b long codes_long ∙ opened_is (job_of tone rows columns plan tables drawing).setting (lawful_job tl pl sound long).setting

  -- plans with equal ranks, and quantisers with equal choices and outputs, make jobs that are alike
  pub alike_jobs : (plan' : Ranks) (tables' : Tables T) → ((row column : ℕ) → plan.rank row column ≡ plan'.rank row column)
      → ((x : T) → tables.choice x ≡ tables'.choice x) → ((c : ℕ) → tables.output c ≡ tables'.output c)
      → Alike (job_of tone rows columns plan tables drawing).setting (job_of tone rows columns plan' tables' drawing).setting
  alike_jobs plan' tables' ranks choices outputs = record {
    algebra = refl;
    count = refl;
    near = λ s d l ld. refl;
    order = λ s d t l ld e h. subst₂ (λ x y. x < y) (ranks (s / columns) (s % columns)) (ranks (t / columns) (t % columns)) h;
    choice = choices;
    output = outputs;
    drawing = λ s l. refl;
  }
