-- The places of the squares that come in reading order, and that each lies in the drawing.
use Rattle.std.proofs.Common.{◌≡◌, ℕ, suc, ◌+◌, ◌-◌, ◌*◌, ◌<◌, Option, List, [], ◌∷◌, MatchOption, sym, ap, ◌∙◌, subst, arith}
use Rattle.std.specs.List.{range_with_len}
use Rattle.std.specs.Iterator.{Yields, CallableAtEachTurn}
use Rattle.std.proofs.lemmas.List.FromFn.{length-range_with_len}
use Rattle.std.proofs.lemmas.Fn.{serves_by}
use Rattle.std.proofs.lemmas.Iterator.{YieldsList}
use Rattle.std.proofs.lemmas.Iterator.Consumers.{YieldsList-from_shown}
use Rattle.grid.specs.Squares.{Inside, Comes}
use Rattle.grid.specs.declared.size.Size.{Size}
use Rattle.grid.specs.declared.square.Square.{Square}
use Rattle.job.proofs.Reading.{place-below, inside-same}

module _ {S : Type 0} (size : S → Size) (place : S → ℕ) where
  -- how squares come: as `next_gives` of the reading order says
  abbrev pub comes : S → Option Square → S → Type 0
  comes s r t = (size t ≡ size s) × MatchOption r (place s ≡ (size s).rows * (size s).columns) (Comes (size s) (place s) (place t))

  abbrev left : S → List ℕ
  left s = range_with_len (place s) ((size s).rows * (size s).columns - place s)

  next-left : (n p q : ℕ) → p < n → q ≡ p + 1 → range_with_len p (n - p) ≡ p ∷ range_with_len q (n - q)
  next-left n p q low e =
      let one : n - p ≡ suc (n - q) = omega arith in
      ap (range_with_len p) one ∙ ap (λ k. p ∷ range_with_len k (n - q)) (sym e)

  pub places_come : (s : S) → place s ≡ 0 → (n : ℕ) → (size s).rows * (size s).columns ≡ n → YieldsList comes (λ square. square.place) s (range_with_len 0 n)
  places_come s first n all =
      let whole : (size s).rows * (size s).columns - place s ≡ n = omega (arith, first, all) in
      subst (YieldsList comes (λ square. square.place) s) (ap (λ k. range_with_len k ((size s).rows * (size s).columns - place s)) first ∙ ap (range_with_len 0) whole)
      (YieldsList-from_shown comes (λ square. square.place) left
      (λ t u k. omega (arith, length-range_with_len (place t) ((size t).rows * (size t).columns - place t), k.1))
      (λ t x u k. next-left ((size t).rows * (size t).columns) (place t) (place u) (omega (arith, k.1.is, place-below (size t) x k.1.inside)) k.1.rises
      ∙ ap (λ p. p ∷ range_with_len (place u) ((size t).rows * (size t).columns - place u)) (sym k.1.is)
      ∙ ap (λ z. x.place ∷ range_with_len (place u) (z.rows * z.columns - place u)) (sym k.0))
      s)

  -- the size stays
  size_stays : (s t : S) (xs : List Square) → Yields comes s xs t → size t ≡ size s
  size_stays s t [] y = ap size (sym y)
  size_stays s t (x ∷ xs) y = size_stays y.0 t xs y.2 ∙ y.1.0

  -- what may be asked of each that comes
  pub serves_inside : (s : S) (whole : Size) → size s ≡ whole → {P : Type 0} {R : P → Square → P → Type 0} {Q : P → Square → Type 0} {p : P} (f : P) → p ≡ f
      → ((x : Square) (q : P) → R f x q → q ≡ f) → ((x : Square) → Inside whole x → Q f x) → CallableAtEachTurn comes R Q s p
  serves_inside s whole e {P} {R} {Q} {p} f is stays h = serves_by R (λ _ q. q ≡ f) (λ xs q x w j r. stays x w (subst (λ k. R k x w) j r)) comes Q s p is
      (λ xs t q x u y k j. subst (λ n. Q n x) (sym j) (h x (inside-same (size t) whole x (size_stays s t xs y ∙ e) k.1.inside)))
