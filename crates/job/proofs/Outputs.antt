-- What is written to an output, by whether it has room.
use Rattle.std.proofs.Common.{◌≡◌, ℕ, ◌<◌, ◌≤◌, Bool, true, cond, ltb, List, ◌++◌, length, drop, sym, ap, ◌∙◌, arith}
use Rattle.std.proofs.lemmas.Bool.{cond-true, cond-false, lt-ltb, le-ltb}
use Rattle.model.specs.Calls.{Wrote, wrote, write_at}
use Rattle.model.specs.Calls.Answer.{Count, Refused}

-- by the test of the bands' lengths, and then by that of the output's
module _ {T : Type 0} (fit : Bool) (is : fit ≡ true) (rec out : List ℕ) (refused : Wrote T) where
  -- an output that is too short stays
  pub write_short : length out < length rec → wrote (Refused 6) out ≡ cond fit (write_at rec out) refused
  write_short h = sym (cond-true fit (write_at rec out) refused is ∙ cond-true (ltb (length out) (length rec)) _ _ (lt-ltb (length out) (length rec) h))

  -- the record, and what lay behind it
  pub write_whole : (n : ℕ) (new : List ℕ) → n ≡ length rec → n ≤ length out → new ≡ rec ++ drop n out → wrote (Count n) new ≡ cond fit (write_at rec out) refused
  write_whole n new e h with_rest =
      let le : length rec ≤ length out = omega arith in
      ap (wrote (Count n)) with_rest
      ∙ ap (λ k. wrote (Count k) (rec ++ drop k out)) e
      ∙ sym (cond-true fit (write_at rec out) refused is ∙ cond-false (ltb (length out) (length rec)) _ _ (le-ltb (length out) (length rec) le))
