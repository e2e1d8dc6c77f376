-- The refusal of codes, from the first of them that is above 1.
use Rattle.std.proofs.Common.{◌≡◌, ℕ, ◌≢◌, ltb, leb, eqb, List, [], ◌∷◌, Option, Some, None, sym, refl, ap, ◌∙◌, ⊎_elim}
use Rattle.std.specs.List.{find}
use Rattle.std.proofs.lemmas.Bool.{cond-true, cond-false, cases_lt, lt-ltb, le-ltb, lt-leb, le-leb, ne_eqb}
use Rattle.netpbm.specs.Pbm.{code_refusal, codes_refusal}

abbrev pub refusal_of_first : Option ℕ → ℕ
refusal_of_first None = 0
refusal_of_first (Some c) = code_refusal c

pub codes_refusal-found : (codes : List ℕ) → codes_refusal codes ≡ refusal_of_first (find (ltb 1) codes)
codes_refusal-found [] = refl
codes_refusal-found (c ∷ cs) =
    ⊎_elim
    (λ high. cond-false (leb c 1) (codes_refusal cs) (code_refusal c) (lt-leb c 1 high)
    ∙ sym (ap refusal_of_first (cond-true (ltb 1 c) (Some c) (find (ltb 1) cs) (lt-ltb 1 c high))))
    (λ low. cond-true (leb c 1) (codes_refusal cs) (code_refusal c) (le-leb c 1 low) ∙ codes_refusal-found cs
    ∙ sym (ap refusal_of_first (cond-false (ltb 1 c) (Some c) (find (ltb 1) cs) (le-ltb 1 c low))))
    (cases_lt 1 c)

pub refused-none : (codes : List ℕ) → find (ltb 1) codes ≡ None → codes_refusal codes ≡ 0
refused-none codes e = codes_refusal-found codes ∙ ap refusal_of_first e

pub refused_open : (codes : List ℕ) (c : ℕ) → find (ltb 1) codes ≡ Some c → c ≡ 255 → 10 ≡ codes_refusal codes
refused_open codes c e is = sym (codes_refusal-found codes ∙ ap refusal_of_first e ∙ ap code_refusal is)

pub refused_high : (codes : List ℕ) (c : ℕ) → find (ltb 1) codes ≡ Some c → c ≢ 255 → 11 ≡ codes_refusal codes
refused_high codes c e other = sym (codes_refusal-found codes ∙ ap refusal_of_first e ∙ cond-false (eqb c 255) 10 11 (ne_eqb c 255 other))
