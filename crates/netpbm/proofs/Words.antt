-- Words of the input, byte by byte, and the numbers that they spell.
use Rattle.std.proofs.Common.{◌≡◌, ℕ, ◌+◌, ◌-◌, ◌*◌, ◌<◌, ◌≤◌, Bool, true, false, cond, List, [], ◌∷◌, length, get_or, drop, Some, None, Option, refl, ap, ◌∙◌, ⊎_elim, arith}
use Rattle.std.proofs.lemmas.List.{at_drop_more}
use Rattle.std.proofs.lemmas.Bool.{lt-leb, le-leb, cases_Bool}
use Rattle.netpbm.specs.Words.{separator, word_from, spelled, capped, digit}

-- at a byte that is no separator a word goes on
pub word_more : (xs : List ℕ) (i : ℕ) → i < length xs → separator (get_or xs i 0) ≡ false → word_from (drop i xs) ≡ get_or xs i 0 ∷ word_from (drop (i + 1) xs)
word_more xs i h w = at_drop_more word_from xs i 0 h ∙ ap (λ b. cond b [] (get_or xs i 0 ∷ word_from (drop (i + 1) xs))) w

pub spelled-digit : (n b : ℕ) (bs : List ℕ) → digit b ≡ true → spelled n (b ∷ bs) ≡ spelled (n * 10 + (b - 48)) bs
spelled-digit n b bs d = ap (λ t. cond t (spelled (n * 10 + (b - 48)) bs) None) d

pub spelled_other : (n b : ℕ) (bs : List ℕ) → digit b ≡ false → spelled n (b ∷ bs) ≡ None
spelled_other n b bs d = ap (λ t. cond t (spelled (n * 10 + (b - 48)) bs) None) d

none_both : (t : Bool) (o : Option ℕ) → capped o ≡ None → capped (cond t o None) ≡ None
none_both true o h = h
none_both false o h = refl

-- digits only make a number greater
pub spelled_high : (n : ℕ) (bs : List ℕ) → 65535 < n → capped (spelled n bs) ≡ None
spelled_high n [] h = ap (λ t. cond t (Some n) None) (lt-leb n 65535 h)
spelled_high n (b ∷ bs) h = none_both (digit b) (spelled (n * 10 + (b - 48)) bs) (spelled_high (n * 10 + (b - 48)) bs (omega arith))

pub capped_some : (n : ℕ) → n ≤ 65535 → capped (Some n) ≡ Some n
capped_some n h = ap (λ t. cond t (Some n) None) (le-leb n 65535 h)

-- a byte that is no digit, or one that makes the number too great
pub spelled_none : (n b : ℕ) (bs : List ℕ) → (digit b ≡ true → 65535 < n * 10 + (b - 48)) → capped (spelled n (b ∷ bs)) ≡ None
spelled_none n b bs high =
    ⊎_elim
    (λ t. ap capped (spelled-digit n b bs t) ∙ spelled_high (n * 10 + (b - 48)) bs (high t))
    (λ f. ap capped (spelled_other n b bs f))
    (cases_Bool (digit b))

-- so a word that is spelled thus far to v, and goes on with such a byte
pub word_none : (xs : List ℕ) (i v : ℕ) → i < length xs → separator (get_or xs i 0) ≡ false → (digit (get_or xs i 0) ≡ true → 65535 < v * 10 + (get_or xs i 0 - 48)) → capped (spelled v (word_from (drop i xs))) ≡ None
word_none xs i v h w high = ap (λ bs. capped (spelled v bs)) (word_more xs i h w) ∙ spelled_none v (get_or xs i 0) (word_from (drop (i + 1) xs)) high
