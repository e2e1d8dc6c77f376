-- What Pack promises a caller in C.
use Rattle.std.specs.Prelude.{◌≡◌, ℕ, true, false, List, ◌++◌, length, drop, ◌≢◌}
use Rattle.grid.specs.Limits.{within}
use Rattle.netpbm.specs.Pbm.{pbm, pack_refusal}
use Rattle.controller.specs.Exports.{answer}
use Rattle.controller.specs.declared.answer.Answer.{Answer}

-- at a size within the limits: the refusal is Pack's own; where there is none, the PBM was written and all behind it kept, and else all was kept
pub record PackedAt (rows columns : ℕ) (codes old : List ℕ) (r : Answer) (new : List ℕ) : Type 0 where
  pub refusal : r.refusal ≡ pack_refusal rows columns codes (length old)
  pub count : r.refusal ≡ 0 → r.count ≡ length (pbm rows columns codes)
  pub written : r.refusal ≡ 0 → new ≡ pbm rows columns codes ++ drop r.count old
  pub none : (r.refusal ≢ 0) → r.count ≡ 0
  pub kept : (r.refusal ≢ 0) → new ≡ old

-- outside them: 1, and all was kept
pub record Packed (rows columns : ℕ) (codes old : List ℕ) (r : Answer) (new : List ℕ) : Type 0 where
  pub inside : within rows columns ≡ true → PackedAt rows columns codes old r new
  pub refused : within rows columns ≡ false → r ≡ answer 0 1
  pub kept : within rows columns ≡ false → new ≡ old
