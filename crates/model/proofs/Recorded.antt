-- Records: what the record of a set tells, that it is accepted, and that an accepted record is the one that Halt writes of its squares.
use Rattle.std.proofs.Common.{◌≡◌, ℕ, zero, suc, ◌+◌, ◌-◌, ◌*◌, ◌/◌, ◌%◌, ◌^◌, ◌<◌, ◌≤◌, Bool, true, false, cond, not, ◌&&◌, ◌||◌, eqb, ltb, List, [], ◌∷◌, ◌++◌, map, length, get_or, take, drop, Decides, filter, sym, refl, ap, ◌∙◌, subst, ap₂, inl, inr, add-one, arith, length-append, length-drop}
use mathlib.Core.Bool.{false≢true}
use Rattle.std.specs.List.{range_with_len}
use Rattle.std.proofs.lemmas.List.{append_assoc, append-nil, get_or_append_left, get_or-append-add, get_or-drop, get_or-take, take-append-drop, take_more, length-take-le, length_push, take_all}
use Rattle.std.proofs.lemmas.List.FromFn.{fill_by_all, length-map-range_with_len, get_or-map-range_with_len, filter_of_map_range_with_len_more}
use Rattle.std.proofs.lemmas.Bool.{cond-true, cases_lt, lt-ltb, le-ltb, ltb-true, ltb-false, eq-eqb, eqb-true, and_parts, and_from, ne_eqb}
use Rattle.std.proofs.lemmas.Bool.Decides.{Decides-eqb}
use Rattle.bits.specs.Bits.{fixed, bit_at, binary, byte_of, bytes_for, packed}
use Rattle.bits.proofs.Binary.{bit_at_le, length-packed}
use Rattle.diffusion.specs.Bands.{code_at, codes}
use Rattle.diffusion.specs.Draft.{Setting, amount, code}
use Rattle.diffusion.specs.Neighbourhoods.{Neighbourhood, Laws}
use Rattle.diffusion.specs.Sets.{Closed}
use Rattle.diffusion.proofs.Neighbours.{lower-within}
use Rattle.model.specs.Jobs.{Job, Lawful, squares}
use Rattle.model.specs.Records.{size_bytes, bit_map, record_of, stands, stand_below, code_in, right_size, spare_clear, right_length, well_formed, closed_by, right_codes, record_refusal}
use Rattle.model.specs.Theorems.{Bytes}
use Rattle.model.proofs.Agreed.{decides_all, decides_unless, decides_closed}
use Rattle.model.proofs.Binaries.{binary-same, bit_is, byte_is, marked, marked_is, bit_drop}

-- the codes of the fixed squares below k, of a band made from a function
abbrev kept : (ℕ → ℕ) → ℕ → List ℕ
kept f k = filter fixed (map f (range_with_len 0 k))

kept_more : (f : ℕ → ℕ) (k : ℕ) → kept f (suc k) ≡ kept f k ++ cond (fixed (f k)) (f k ∷ []) []
kept_more f k = ap (kept f) (sym (add-one k)) ∙ filter_of_map_range_with_len_more fixed f 0 k k (omega arith)

kept_yes : (f : ℕ → ℕ) (k : ℕ) → fixed (f k) ≡ true → kept f (suc k) ≡ kept f k ++ f k ∷ []
kept_yes f k e = kept_more f k ∙ ap (λ b. kept f k ++ cond b (f k ∷ []) []) e

kept_no : (f : ℕ → ℕ) (k : ℕ) → fixed (f k) ≡ false → kept f (suc k) ≡ kept f k
kept_no f k e = kept_more f k ∙ ap (λ b. kept f k ++ cond b (f k ∷ []) []) e ∙ append-nil (kept f k)

-- what a record of a band tells
module _ (rows columns : ℕ) (f : ℕ → ℕ) (n : ℕ) where
  abbrev band : List ℕ
  band = map f (range_with_len 0 n)

  abbrev rec : List ℕ
  rec = record_of rows columns band

  long : length band ≡ n
  long = length-map-range_with_len f 0 n

  map_long : length (bit_map band) ≡ bytes_for n
  map_long = length-packed fixed (bytes_for (length band)) band ∙ ap bytes_for long

  told : (k : ℕ) → k < 8 * bytes_for n → stands rec k ≡ marked band k
  told k l =
      let b = k / 8 in
      let i = k % 8 in
      let byte : get_or rec (4 + b) 0 ≡ byte_of fixed (drop (8 * b) band) =
      get_or-append-add (size_bytes rows columns) (bit_map band ++ filter fixed band) b 0
      ∙ get_or_append_left (bit_map band) (filter fixed band) 0 b (omega (arith, map_long))
      ∙ get_or-map-range_with_len (λ b. byte_of fixed (drop (8 * b) band)) 0 (bytes_for (length band)) b b 0 (omega (arith, long)) (omega arith) in
      let here : 8 * b + i ≡ k = omega arith in
      ap (λ x. eqb (x / 2 ^ (7 - i) % 2) 1) byte
      ∙ ap (λ x. eqb x 1) (bit_is (bit_at fixed (drop (8 * b) band)) (bit_at_le fixed (drop (8 * b) band)) i (omega arith) ∙ bit_drop (8 * b) band i ∙ ap (bit_at fixed band) here)
      ∙ marked_is band k

  told_in : (k : ℕ) → k < n → stands rec k ≡ fixed (f k)
  told_in k l =
      told k (omega arith)
      ∙ ap₂ (λ b c. b && fixed c) (lt-ltb k (length band) (omega (arith, long))) (get_or-map-range_with_len f 0 n k k 0 l (omega arith))

  told_spare : (k : ℕ) → n ≤ k → k < 8 * bytes_for n → stands rec k ≡ false
  told_spare k h l = told k l ∙ ap (λ b. b && fixed (get_or band k 0)) (le-ltb k (length band) (omega (arith, long)))

  count_is : (k : ℕ) → k ≤ n → stand_below rec k ≡ length (kept f k)
  unfolding stand_below
  count_is zero l = refl
  count_is (suc k) l = go (fixed (f k)) refl (count_is k (omega arith))
    where
      go : (b : Bool) → fixed (f k) ≡ b → stand_below rec k ≡ length (kept f k) → stand_below rec k + cond (stands rec k) 1 0 ≡ length (kept f (suc k))
      go true e before = ap₂ (λ m b. m + cond b 1 0) before (told_in k l ∙ e) ∙ sym (ap length (kept_yes f k e) ∙ length_push (kept f k) (f k))
      go false e before = ap₂ (λ m b. m + cond b 1 0) before (told_in k l ∙ e) ∙ omega (arith, ap length (kept_no f k e))

  -- those before k begin the list
  kept_front : (m k : ℕ) → (rest : List ℕ) × (kept f (k + m) ≡ kept f k ++ rest)
  kept_front zero k = let e : k + 0 ≡ k = omega arith in ([], ap (kept f) e ∙ sym (append-nil (kept f k)))
  kept_front (suc m) k =
      let h = kept_front m k in
      let e : k + suc m ≡ suc (k + m) = omega arith in (
        h.0 ++ cond (fixed (f (k + m))) (f (k + m) ∷ []) [],
        ap (kept f) e ∙ kept_more f (k + m) ∙ ap (λ xs. xs ++ cond (fixed (f (k + m))) (f (k + m) ∷ []) []) h.1 ∙ append_assoc (kept f k) h.0 _,
      )

  code_is : (k : ℕ) → k < n → fixed (f k) ≡ true → code_in n rec k ≡ f k
  code_is k l e =
      let h = kept_front (n - suc k) (suc k) in
      let all : n ≡ suc k + (n - suc k) = omega arith in
      let whole : kept f n ≡ kept f k ++ (f k ∷ h.0) =
      ap (kept f) all ∙ h.1 ∙ ap (λ xs. xs ++ h.0) (kept_yes f k e) ∙ append_assoc (kept f k) (f k ∷ []) h.0 in
      let at : 4 + bytes_for n + stand_below rec k ≡ 4 + (length (bit_map band) + (length (kept f k) + 0)) = omega (arith, map_long, count_is k (omega arith)) in
      ap (λ i. get_or rec i 0) at
      ∙ get_or-append-add (size_bytes rows columns) (bit_map band ++ kept f n) (length (bit_map band) + (length (kept f k) + 0)) 0
      ∙ get_or-append-add (bit_map band) (kept f n) (length (kept f k) + 0) 0
      ∙ ap (λ xs. get_or xs (length (kept f k) + 0) 0) whole
      ∙ get_or-append-add (kept f k) (f k ∷ h.0) 0 0

  rec_long : length rec ≡ 4 + bytes_for n + stand_below rec n
  rec_long =
      length-append (size_bytes rows columns) (bit_map band ++ kept f n)
      ∙ omega (arith, length-append (bit_map band) (kept f n), map_long, count_is n (omega arith))

-- what well_formed says
decides_spare : (n : ℕ) (rec : List ℕ) → Decides (spare_clear n rec) ((k : ℕ) → k < 8 * bytes_for n → n ≤ k → stands rec k ≡ false)
decides_spare n rec = decides_all (λ k. ltb k n || not (stands rec k)) (λ k. n ≤ k → stands rec k ≡ false) each (8 * bytes_for n)
  where
    go : (k : ℕ) (a b : Bool) → ltb k n ≡ a → Decides (a || not b) (n ≤ k → b ≡ false)
    go k true b e = (λ h q. absurd (let z = ltb-true k n e in omega arith), λ h. refl)
    go k false true e = (λ h q. absurd (false≢true h), λ h. absurd (false≢true (sym (h (ltb-false k n e)))))
    go k false false e = (λ h q. refl, λ h. refl)

    each : (k : ℕ) → Decides (ltb k n || not (stands rec k)) (n ≤ k → stands rec k ≡ false)
    each k = go k (ltb k n) (stands rec k) refl

pub decides_codes : {T : Type 0} (j : Setting T) (rec : List ℕ) → Decides (right_codes j rec) ((s : ℕ) → s < j.squares.count → stands rec s ≡ true → code_in j.squares.count rec s ≡ code j s)
decides_codes j rec = decides_all (λ s. not (stands rec s) || eqb (code_in j.squares.count rec s) (code j s)) _ (λ s. decides_unless (stands rec s) _ _ (Decides-eqb _ _)) j.squares.count

size_is : (rows columns : ℕ) (rest : List ℕ) → right_size rows columns (size_bytes rows columns ++ rest) ≡ true
size_is rows columns rest =
    let q : (x : ℕ) → eqb x x ≡ true = λ x. eq-eqb x x refl in
    and_from _ _ (q (rows / 256)) (and_from _ _ (q (rows % 256)) (and_from _ _ (q (columns / 256)) (q (columns % 256))))

refusal_zero : {T : Type 0} (p : Job T) (rec : List ℕ) → well_formed p rec ≡ true → closed_by p.setting.squares (stands rec) ≡ true → right_codes p.setting rec ≡ true → record_refusal p rec ≡ 0
unfolding record_refusal
refusal_zero p rec a b c = rw (a, b, c) refl

refusal_parts : {T : Type 0} (p : Job T) (rec : List ℕ) → record_refusal p rec ≡ 0 → (well_formed p rec ≡ true) × (closed_by p.setting.squares (stands rec) ≡ true) × (right_codes p.setting rec ≡ true)
unfolding record_refusal
refusal_parts p rec e = go (well_formed p rec) (closed_by p.setting.squares (stands rec)) (right_codes p.setting rec) e
  where
    go : (a b c : Bool) → ◌≡◌ {A = ℕ} (cond a (cond b (cond c 0 9) 8) 7) 0 → (a ≡ true) × (b ≡ true) × (c ≡ true)
    go false b c h = absurd (omega arith)
    go true false c h = absurd (omega arith)
    go true true false h = absurd (omega arith)
    go true true true h = (refl, refl, refl)

pub closed_same : (squares : Neighbourhood) → Laws squares → (F G : ℕ → Bool) → ((s : ℕ) → s < squares.count → F s ≡ G s) → Closed squares F → Closed squares G
closed_same squares laws F G h closed s d t l ld has e =
    sym (h t (lower-within squares laws s d t l ld e)) ∙ closed s d t l ld (h s l ∙ has) e

module _ {T : Type 0} (p : Job T) (laws : Lawful p) where
  open p use {setting as j}

  module _ (F : ℕ → Bool) where
    abbrev written : List ℕ
    written = record_of p.rows p.columns (codes j F)

    -- no choice is 255
    fixed_is : (s : ℕ) → fixed (code_at j F s) ≡ F s
    unfolding code_at
    fixed_is s = by (F s)
      where
        by : (b : Bool) → not (eqb (cond b (code j s) 255) 255) ≡ b
        by true = ap not (ne_eqb (code j s) 255 (λ e. omega (arith, laws.setting.tables.within (amount j s), laws.setting.tables.few)))
        by false = refl

    -- a record tells the squares
    pub stands_are : (s : ℕ) → s < squares p → stands written s ≡ F s
    stands_are s l = told_in p.rows p.columns (code_at j F) (squares p) s l ∙ fixed_is s

    -- the record of a closed set is accepted
    pub written_accepted : Closed j.squares F → record_refusal p written ≡ 0
    unfolding code_at
    written_accepted closed = refusal_zero p written
        (and_from _ _ (size_is p.rows p.columns (bit_map (codes j F) ++ filter fixed (codes j F)))
        (and_from _ _ ((decides_spare (squares p) written).1 (λ k l h. told_spare p.rows p.columns (code_at j F) (squares p) k h l))
        (eq-eqb _ _ (rec_long p.rows p.columns (code_at j F) (squares p)))))
        ((decides_closed j.squares (stands written)).1 (closed_same j.squares laws.setting.squares F (stands written) (λ s l. sym (stands_are s l)) closed))
        ((decides_codes j written).1 (λ s l h.
        code_is p.rows p.columns (code_at j F) (squares p) s l (fixed_is s ∙ sym (stands_are s l) ∙ h)
        ∙ cond-true (F s) (code j s) 255 (sym (stands_are s l) ∙ h)))

bit_of_two : (y : ℕ) → y < 2 → cond (eqb y 1) 1 0 ≡ y
bit_of_two zero l = refl
bit_of_two (suc zero) l = refl
bit_of_two (suc (suc y)) l = absurd (omega arith)

pub code_at-fixed : {T : Type 0} (j : Setting T) (F : ℕ → Bool) (s : ℕ) → F s ≡ true → code_at j F s ≡ code j s
unfolding code_at
code_at-fixed j F s e = cond-true (F s) (code j s) 255 e

-- a record's first four bytes
front_four : (xs : List ℕ) → 4 ≤ length xs → take 4 xs ≡ get_or xs 0 0 ∷ get_or xs 1 0 ∷ get_or xs 2 0 ∷ get_or xs 3 0 ∷ []
front_four [] l = absurd (omega arith)
front_four (a ∷ []) l = absurd (omega arith)
front_four (a ∷ (b ∷ [])) l = absurd (omega arith)
front_four (a ∷ (b ∷ (c ∷ []))) l = absurd (omega arith)
front_four (a ∷ (b ∷ (c ∷ (d ∷ xs)))) l = refl

below_mono : (rec : List ℕ) (m k : ℕ) → stand_below rec k ≤ stand_below rec (k + m)
unfolding stand_below
below_mono rec zero k = let e : stand_below rec (k + 0) ≡ stand_below rec k = let z : k + 0 ≡ k = omega arith in ap (stand_below rec) z in omega arith
below_mono rec (suc m) k =
    let z : k + suc m ≡ suc (k + m) = omega arith in
    let e : stand_below rec (k + suc m) ≡ stand_below rec (k + m) + cond (stands rec (k + m)) 1 0 = ap (stand_below rec) z in
    let h = below_mono rec m k in
    omega arith

below_more : (rec : List ℕ) (k : ℕ) (b : Bool) → stands rec k ≡ b → stand_below rec (suc k) ≡ stand_below rec k + cond b 1 0
unfolding stand_below
below_more rec k b e = ap (λ t. stand_below rec k + cond t 1 0) e

-- an accepted record is what Halt writes of its standing squares
module _ {T : Type 0} (p : Job T) (laws : Lawful p) (rec : List ℕ) (small : Bytes rec) (accepted : record_refusal p rec ≡ 0) where
  open p use {setting as j}

  abbrev n : ℕ
  n = squares p

  abbrev f : ℕ → ℕ
  f = code_at j (stands rec)

  abbrev tail : List ℕ
  tail = drop (bytes_for n) (drop 4 rec)

  formed : (right_size p.rows p.columns rec ≡ true) × (spare_clear n rec ≡ true) × (right_length n rec ≡ true)
  formed =
      let a = and_parts _ _ (refusal_parts p rec accepted).0 in
      let b = and_parts _ _ a.1 in
      (a.0, b.0, b.1)

  rec_len : length rec ≡ 4 + bytes_for n + stand_below rec n
  rec_len = eqb-true _ _ formed.2

  tail_len : length tail ≡ stand_below rec n
  tail_len = omega (arith, length-drop (bytes_for n) (drop 4 rec), length-drop 4 rec, rec_len)

  bit_same : (k : ℕ) → k < 8 * bytes_for n → marked (codes j (stands rec)) k ≡ stands rec k
  bit_same k l = elim (cases_lt k n) [
    | inl h ↦ ap₂ (λ b c. b && fixed c) (lt-ltb k (length (codes j (stands rec))) (omega (arith, long p.rows p.columns f n))) (get_or-map-range_with_len f 0 n k k 0 h (omega arith))
        ∙ fixed_is p laws (stands rec) k
    | inr h ↦ ap (λ b. b && fixed (get_or (codes j (stands rec)) k 0)) (le-ltb k (length (codes j (stands rec))) (omega (arith, long p.rows p.columns f n)))
        ∙ sym ((decides_spare n rec).0 formed.1 k l h)
  ]

  one_bit : (b i : ℕ) → b < bytes_for n → i < 8 → bit_at fixed (drop (8 * b) (codes j (stands rec))) i ≡ get_or rec (4 + b) 0 / 2 ^ (7 - i) % 2
  one_bit b i l h =
      let row : (8 * b + i) / 8 ≡ b = omega arith in
      let column : (8 * b + i) % 8 ≡ i = omega arith in
      let same : marked (codes j (stands rec)) (8 * b + i) ≡ eqb (get_or rec (4 + b) 0 / 2 ^ (7 - i) % 2) 1 =
      bit_same (8 * b + i) (omega arith) ∙ ap₂ (λ x y. eqb (get_or rec (4 + x) 0 / 2 ^ (7 - y) % 2) 1) row column in
      subst (λ x. x ≡ get_or rec (4 + b) 0 / 2 ^ (7 - i) % 2) (sym (bit_drop (8 * b) (codes j (stands rec)) i))
      (subst (λ t. cond t 1 0 ≡ get_or rec (4 + b) 0 / 2 ^ (7 - i) % 2) (sym same) (bit_of_two (get_or rec (4 + b) 0 / 2 ^ (7 - i) % 2) (omega arith)))

  byte_same : (b : ℕ) → b < bytes_for n → get_or rec (4 + b) 0 ≡ byte_of fixed (drop (8 * b) (codes j (stands rec)))
  byte_same b l =
      let bits : byte_of fixed (drop (8 * b) (codes j (stands rec))) ≡ binary (λ i. get_or rec (4 + b) 0 / 2 ^ (7 - i) % 2) 8 = binary-same _ _ 8 (λ i h. one_bit b i l h) in
      sym (bits ∙ byte_is (get_or rec (4 + b) 0) (small (4 + b)))

  map_same : take (bytes_for n) (drop 4 rec) ≡ bit_map (codes j (stands rec))
  map_same =
      fill_by_all (λ b. byte_of fixed (drop (8 * b) (codes j (stands rec)))) (take (bytes_for n) (drop 4 rec)) (bytes_for n) 0
      (length-take-le (bytes_for n) (drop 4 rec) (omega (arith, length-drop 4 rec, rec_len)))
      (λ b l. get_or-take (bytes_for n) (drop 4 rec) b 0 l ∙ get_or-drop 4 rec b 0 ∙ byte_same b l)
      ∙ ap (λ m. packed fixed (bytes_for m) (codes j (stands rec))) (sym (long p.rows p.columns f n))

  kept_same : (k : ℕ) → k ≤ n → kept f k ≡ take (stand_below rec k) tail
  unfolding stand_below
  kept_same zero l = refl
  kept_same (suc k) l = go (stands rec k) refl (kept_same k (omega arith))
    where
      is : fixed (f k) ≡ stands rec k
      is = fixed_is p laws (stands rec) k

      go : (b : Bool) → stands rec k ≡ b → kept f k ≡ take (stand_below rec k) tail → kept f (suc k) ≡ take (stand_below rec k + cond (stands rec k) 1 0) tail
      go false e before = kept_no f k (is ∙ e) ∙ before ∙ ap (λ m. take m tail) (omega (arith, ap {B = ℕ} (λ b. cond b 1 0) e))
      go true e before =
          let m = stand_below rec k in
          let z : suc k + (n - suc k) ≡ n = omega arith in
          let at : 4 + (bytes_for n + m) ≡ 4 + bytes_for n + m = omega arith in
          let room : m < length tail = omega (arith, below_mono rec (n - suc k) (suc k), ap (stand_below rec) z, below_more rec k true e, tail_len) in
          let read : get_or tail m 0 ≡ f k =
          get_or-drop (bytes_for n) (drop 4 rec) m 0
          ∙ get_or-drop 4 rec (bytes_for n + m) 0
          ∙ ap (λ i. get_or rec i 0) at
          ∙ (decides_codes j rec).0 (refusal_parts p rec accepted).2 k l e
          ∙ sym (code_at-fixed j (stands rec) k e) in
          kept_yes f k (is ∙ e)
          ∙ ap₂ (λ xs x. xs ++ x ∷ []) before (sym read)
          ∙ sym (take_more tail m 0 room)
          ∙ ap (λ b. take (m + cond b 1 0) tail) (sym e)

  pub rebuilt : record_of p.rows p.columns (codes j (stands rec)) ≡ rec
  rebuilt =
      let a = and_parts _ _ formed.0 in
      let b = and_parts _ _ a.1 in
      let c = and_parts _ _ b.1 in
      let e0 = eqb-true (get_or rec 0 0) (p.rows / 256) a.0 in
      let e1 = eqb-true (get_or rec 1 0) (p.rows % 256) b.0 in
      let e2 = eqb-true (get_or rec 2 0) (p.columns / 256) c.0 in
      let e3 = eqb-true (get_or rec 3 0) (p.columns % 256) c.1 in
      let size : size_bytes p.rows p.columns ≡ take 4 rec = sym (front_four rec (omega (arith, rec_len)) ∙ (λ i. e0 i ∷ e1 i ∷ e2 i ∷ e3 i ∷ [])) in
      let all : kept f n ≡ tail = kept_same n (omega arith) ∙ take_all (stand_below rec n) tail (omega (arith, tail_len)) in
      let same = sym map_same in
      (λ i. size i ++ (same i ++ all i))
      ∙ ap (λ xs. take 4 rec ++ xs) (take-append-drop (bytes_for n) (drop 4 rec))
      ∙ take-append-drop 4 rec
