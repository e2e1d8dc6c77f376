-- A record's codes written into a code band, place by place.
use Rattle.std.proofs.Common.{◌≡◌, ℕ, zero, suc, ◌+◌, ◌<◌, ◌≤◌, true, false, cond, List, ◌∷◌, length, get_or, drop, set, sym, refl, ap, ◌∙◌, inl, inr, arith, length-drop, below_more}
use Rattle.std.proofs.Math.Seq.{drop-cons}
use Rattle.std.proofs.lemmas.List.FromFn.{fill_by_all}
use Rattle.std.proofs.lemmas.List.Edits.{fill_by_more}
use Rattle.std.proofs.lemmas.Bool.{cases_eq, cond-true, cond-false, false≢true}
use Rattle.bits.specs.Bits.{bytes_for}
use Rattle.model.specs.Records.{stands, stand_below, code_in}
use Rattle.model.specs.Replays.{codes_in}
use Rattle.model.proofs.OneMore.{stand_below-none}
use Rattle.job.specs.Coded.{EachCoded}
use Rattle.job.proofs.Forms.{counted-standing, counted_other}

-- more places have no fewer that stand
stand_below_rises : (rec : List ℕ) (k n : ℕ) → k ≤ n → stand_below rec k ≤ stand_below rec n
unfolding stand_below
stand_below_rises rec k zero l = let z : k ≡ 0 = omega arith in omega (arith, ap (stand_below rec) z)
stand_below_rises rec k (suc n) l = elim (cases_eq k (suc n)) [
  | inl e ↦ omega (arith, ap (stand_below rec) e)
  | inr ne ↦ (let before = stand_below_rises rec k n (omega arith) in omega arith)
]

module _ (n : ℕ) (rec : List ℕ) where
  -- what the band holds at a place
  abbrev pub code_at : ℕ → ℕ
  code_at s = cond (stands rec s) (code_in n rec s) 255

  -- the codes of the places below s are written, none of them is 255 where the place stands, and the codes of the others are left
  pub record Written (s : ℕ) (left cs : List ℕ) : Type 0 where
    pub due : length (drop (4 + bytes_for n) rec) ≡ stand_below rec n
    pub left_are : left ≡ drop (4 + bytes_for n + stand_below rec s) rec
    pub codes : (k : ℕ) → k < s → get_or cs k 0 ≡ code_at k
    pub each : (k : ℕ) → k < s → stands rec k ≡ true → code_in n rec k ≡ 255 → ⊥

  -- before the first place
  pub written_none : (m : ℕ) (given cs : List ℕ) → n ≡ m → given ≡ drop (4 + bytes_for m) rec → length given ≡ stand_below rec m → Written 0 given cs
  written_none m given cs same is due =
      let all : 4 + bytes_for n + stand_below rec 0 ≡ 4 + bytes_for n = omega (arith, stand_below-none rec) in
      record {
        due = rw (same, ← is) due;
        left_are = rw (all, same) is;
        codes = λ k l. absurd (omega arith);
        each = λ k l. absurd (omega arith);
      }

  module _ (s : ℕ) (left cs : List ℕ) (w : Written s left cs) (inside : s < n) where
    -- a standing place has its code at the front of those that are left
    pub left_begin : stands rec s ≡ true → left ≡ code_in n rec s ∷ drop (4 + bytes_for n + stand_below rec (s + 1)) rec
    left_begin e =
        let one = counted-standing rec s (stand_below rec s) refl e in
        let more = stand_below_rises rec (s + 1) n (omega arith) in
        let next : suc (4 + bytes_for n + stand_below rec s) ≡ 4 + bytes_for n + stand_below rec (s + 1) = omega arith in
        w.left_are ∙ drop-cons rec (4 + bytes_for n + stand_below rec s) 0 (omega (arith, w.due, length-drop (4 + bytes_for n) rec)) ∙ ap (λ k. code_in n rec s ∷ drop k rec) next

    -- one place more that stands
    pub written_standing : (x : ℕ) (rest : List ℕ) → s < length cs → stands rec s ≡ true → left ≡ x ∷ rest → (x ≡ 255 → ⊥) → Written (s + 1) rest (set cs s x)
    written_standing x rest l e is ne =
        let begins = left_begin e in
        let read : x ≡ code_in n rec s = cc in
        let same : x ≡ code_at s = read ∙ sym (cond-true (stands rec s) (code_in n rec s) 255 e) in
        record {
          due = w.due;
          left_are = cc;
          codes = λ k h. ap (λ c. get_or (set cs s c) k 0) same ∙ fill_by_more code_at cs s 0 l w.codes k h;
          each = below_more (λ k. stands rec k ≡ true → code_in n rec k ≡ 255 → ⊥) s w.each (λ t is. ne (read ∙ is));
        }

    -- or that does not stand
    pub written_open : s < length cs → stands rec s ≡ false → Written (s + 1) left (set cs s 255)
    written_open l e =
        let same = counted_other rec s (stand_below rec s) refl e in
        record {
          due = w.due;
          left_are = w.left_are ∙ ap (λ k. drop (4 + bytes_for n + k) rec) same;
          codes = (let same : 255 ≡ code_at s = sym (cond-false (stands rec s) (code_in n rec s) 255 e) in
              λ k h. ap (λ c. get_or (set cs s c) k 0) same ∙ fill_by_more code_at cs s 0 l w.codes k h);
          each = below_more (λ k. stands rec k ≡ true → code_in n rec k ≡ 255 → ⊥) s w.each (λ t is. false≢true (sym e ∙ t));
        }

    -- a standing square without a code
    pub not_each : (x : ℕ) (rest : List ℕ) → stands rec s ≡ true → left ≡ x ∷ rest → x ≡ 255 → EachCoded n rec → ⊥
    not_each x rest e is mark each =
        let begins = left_begin e in
        let read : x ≡ code_in n rec s = cc in
        each s inside e (sym read ∙ mark)

  -- after the last place
  pub codes_all : (s : ℕ) (left cs : List ℕ) → Written s left cs → n ≤ s → length cs ≡ n → EachCoded n rec × (cs ≡ codes_in n rec)
  codes_all s left cs w all long = (λ k l. w.each k (omega arith), fill_by_all code_at cs n 0 long (λ k l. w.codes k (omega arith)))
