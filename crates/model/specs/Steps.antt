-- The seven calls on bands of any content, and the model: the same calls on a set of squares.
use Rattle.std.specs.Prelude.{ℕ, suc, Bool, cond, List, map, slice_index_or}
use Rattle.diffusion.specs.Bands.{Bands, bands, codes, standing, fixed_in}
use Rattle.diffusion.specs.Draft.{code, error}
use Rattle.diffusion.specs.Sets.{every, none, add, lacking}
use Rattle.diffusion.specs.Sweeps.{sweep_in, swept_in}
use Rattle.diffusion.specs.Tallies.{all_of, output_of, loss_of, open_of, drawing_total, output_total, loss_total, open_total, lost, loss_places, loss_errors}
use Rattle.model.specs.Calls.{Call, Answer, Told, told, Wrote, wrote, Listed, listed, Acts, fix_at, resume_at, write_at, list_at, Pools, Done, perform}
use Rattle.model.specs.Calls.Answer.{Followed, Count, Totals, Refused}
use Rattle.model.specs.Fixes.{refusal, follow, follow_in}
use Rattle.model.specs.Jobs.{Job, squares, place, fits}
use Rattle.model.specs.Records.{record_of, stands, record_refusal}

module _ {T : Type 0} (p : Job T) where
  -- on bands of any length and content; 2 before all else where one is not as long as the drawing has squares
  abbrev pub fix_on : ℕ → ℕ → Bands T → Told T (Bands T)
  fix_on row column b =
      let s = place p row column in
      cond (fits p b)
      (fix_at (refusal p.setting.squares (standing b.codes) s) (p.setting.tables.choice (slice_index_or b.amounts s p.setting.algebra.zero)) (fixed_in p.setting s b) b)
      (told (Refused 2) b)

  abbrev pub follow_on : List ℕ → Bands T → Told T (Bands T)
  follow_on ps b = let r = follow_in p.setting b ps in cond (fits p b) (told (Followed r.count r.refusal) r.state) (told (Followed 0 2) b)

  abbrev pub finish_on : Bands T → Told T (Bands T)
  finish_on b = cond (fits p b) (told (Count (swept_in p.setting every b (suc p.top))) (sweep_in p.setting every b (suc p.top))) (told (Refused 2) b)

  abbrev pub halt_on : Bands T → List ℕ → Wrote T
  halt_on b out = cond (fits p b) (write_at (record_of p.rows p.columns b.codes) out) (wrote (Refused 2) out)

  abbrev pub resume_on : List ℕ → Bands T → Told T (Bands T)
  resume_on rec b = cond (fits p b) (resume_at (record_refusal p rec) (bands p.setting (stands rec)) (bands p.setting none) b) (told (Refused 2) b)

  abbrev pub tally_on : Bands T → Answer T
  tally_on b = cond (fits p b) (Totals (drawing_total p.setting) (output_total p.setting b) (loss_total p.setting b) (open_total p.setting b)) (Refused 2)

  abbrev pub losses_on : Bands T → List ℕ → List T → Listed T
  losses_on b places errors = cond (fits p b) (list_at (loss_places p.setting b) (loss_errors p.setting b) places errors) (listed (Refused 2) places errors)

  abbrev pub on_bands : Acts T (Bands T)
  on_bands = record { fix = fix_on; follow = follow_on; finish = finish_on; halt = halt_on; resume = resume_on; tally = tally_on; losses = losses_on }

  -- the model: of the bands it knows only the drawing
  abbrev pub on_set : Acts T (ℕ → Bool)
  on_set = record {
    fix = λ row column F. let s = place p row column in fix_at (refusal p.setting.squares F s) (code p.setting s) (add F s) F;
    follow = λ ps F. let r = follow p.setting.squares F ps in told (Followed r.count r.refusal) r.state;
    finish = λ F. told (Count (lacking F (squares p))) every;
    halt = λ F. write_at (record_of p.rows p.columns (codes p.setting F));
    resume = λ rec F. resume_at (record_refusal p rec) (stands rec) none F;
    tally = λ F. Totals (all_of p.setting p.setting.drawing) (all_of p.setting (output_of p.setting F)) (all_of p.setting (loss_of p.setting F)) (all_of p.setting (open_of p.setting F));
    losses = λ F. let ps = lost p.setting.squares F (squares p) in list_at ps (map (error p.setting) ps);
  }

  abbrev pub step : Call → Bands T → Pools T → Done T (Bands T)
  step = perform on_bands

  abbrev pub model : Call → (ℕ → Bool) → Pools T → Done T (ℕ → Bool)
  model = perform on_set
