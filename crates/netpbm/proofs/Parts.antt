-- Lists written part by part.
use Rattle.std.proofs.Common.{◌≡◌, ℕ, ◌+◌, ◌<◌, ◌≤◌, List, [], ◌∷◌, ◌++◌, length, get_or, take, drop, set, sym, refl, ap, ◌∙◌, arith, length-append, length-drop, rules}
use borrow.Rule.Slice.PartMut.{put_mid, post_of}
use Rattle.std.proofs.lemmas.List.{places, set_at, drop_more, drop_all, take_all, take_more_set, length-set, take_at}
use Rattle.std.proofs.lemmas.Slice.{take-put_mid}

-- what is left past all but the last
pub last_one : (xs : List ℕ) (i k : ℕ) → length xs ≡ i + 1 → k ≡ i → post_of 0 k xs ≡ get_or xs i 0 ∷ []
last_one xs i k long e =
    ap (λ n. drop n xs) e ∙ drop_more xs i 0 (omega arith) ∙ ap (λ r. get_or xs i 0 ∷ r) (drop_all (i + 1) xs (omega arith))

-- the last element behind a part that holds all others
pub set_last : (xs ys : List ℕ) (i k v : ℕ) → length xs ≡ i + 1 → length ys ≡ i → k ≡ i → set (ys ++ post_of 0 k xs) i v ≡ ys ++ v ∷ []
set_last xs ys i k v long front e =
    ap (λ r. set (ys ++ r) i v) (last_one xs i k long e) ∙ set_at ys (get_or xs i 0) [] v i front

pub length_last : (xs ys : List ℕ) (i k : ℕ) → length xs ≡ i + 1 → length ys ≡ i → k ≡ i → length (ys ++ post_of 0 k xs) ≡ i + 1
length_last xs ys i k long front e = ap (λ r. length (ys ++ r)) (last_one xs i k long e) ∙ length-append ys _ ∙ omega arith

pub set_only : (xs : List ℕ) (v : ℕ) → length xs ≡ 1 → set xs 0 v ≡ v ∷ []
set_only [] v long = let z : ◌≡◌ {A = ℕ} 0 1 = long in absurd (omega arith)
set_only (x ∷ []) v long = refl
set_only (x ∷ (y ∷ xs)) v long = absurd (omega (arith, long))

pub length-put_mid : (a k : ℕ) (xs ys : List ℕ) → a + k ≤ length xs → length ys ≡ k → length (put_mid a k xs ys) ≡ length xs
length-put_mid a k xs ys h e = search (rules, places)

-- one more element, and one more part, behind what is known of the front
pub front_set : (xs ys : List ℕ) (i j v : ℕ) → i < length xs → take i xs ≡ ys → j ≡ i + 1 → take j (set xs i v) ≡ ys ++ v ∷ []
front_set xs ys i j v h e at = ap (λ n. take n (set xs i v)) at ∙ take_more_set xs i v h ∙ ap (λ l. l ++ v ∷ []) e

pub front_part : (xs ys zs : List ℕ) (a k n : ℕ) → a ≤ length xs → take a xs ≡ ys → n ≡ a + length zs → take n (put_mid a k xs zs) ≡ ys ++ zs
front_part xs ys zs a k n h e at = take-put_mid a k xs zs n at h ∙ ap (λ l. l ++ zs) e

-- three bytes, a part, a byte, a part and a byte fill the list
pub headed : (xs fs ds es : List ℕ) (s f gap end j k : ℕ)
    → length fs ≡ 3 → gap ≡ 3 + length ds → end ≡ gap + 1 + length es → length xs ≡ end + 1 → j ≡ length ds → k ≡ length es
    → set (put_mid (gap + 1) k (set (put_mid 3 j (fs ++ drop 3 xs) ds) gap s) es) end f ≡ fs ++ ds ++ (s ∷ []) ++ es ++ (f ∷ [])
headed xs fs ds es s f gap end j k three g e n ej ek =
    let x3 = fs ++ drop 3 xs in
    let l3 : length x3 ≡ length xs = length-append fs (drop 3 xs) ∙ omega (arith, length-drop 3 xs) in
    let p3 = put_mid 3 j x3 ds in
    let m3 : length p3 ≡ length xs = length-put_mid 3 j x3 ds (omega (arith, l3)) (omega arith) ∙ l3 in
    let x4 = set p3 gap s in
    let l4 : length x4 ≡ length xs = length-set p3 gap s ∙ m3 in
    let p4 = put_mid (gap + 1) k x4 es in
    let m4 : length p4 ≡ length xs = length-put_mid (gap + 1) k x4 es (omega (arith, l4)) (omega arith) ∙ l4 in
    let l5 : length (set p4 end f) ≡ length xs = length-set p4 end f ∙ m4 in
    let t3 = take_at fs (drop 3 xs) 3 three in
    let u3 = front_part x3 _ ds 3 j gap (omega (arith, l3)) t3 g in
    let t4 = front_set p3 _ gap (gap + 1) s (omega (arith, m3)) u3 refl in
    let u4 = front_part x4 _ es (gap + 1) k end (omega (arith, l4)) t4 e in
    let t5 = front_set p4 _ end (end + 1) f (omega (arith, m4)) u4 refl in
    sym (take_all (end + 1) (set p4 end f) (omega (arith, l5))) ∙ t5
