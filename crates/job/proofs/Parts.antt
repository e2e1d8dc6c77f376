-- Lists written part by part.
use Rattle.std.proofs.Common.{◌≡◌, ℕ, ◌+◌, ◌≤◌, List, ◌++◌, length, take, drop, sym, ap, ◌∙◌, append_assoc, arith, length-append, length-drop, rules}
use borrow.Rule.Slice.PartMut.{put_mid, post_of}
use Rattle.std.proofs.lemmas.List.{places, take-append-drop, take_at, length-take-le}
use Rattle.std.proofs.lemmas.Slice.{take-put_mid, drop-put_mid, drop-append-drop}

length-put_mid : (a k : ℕ) (xs ys : List ℕ) → a + k ≤ length xs → length ys ≡ k → length (put_mid a k xs ys) ≡ length xs
length-put_mid a k xs ys h e = search (rules, places)

front_part : (xs ys zs : List ℕ) (a k n : ℕ) → a ≤ length xs → take a xs ≡ ys → n ≡ a + length zs → take n (put_mid a k xs zs) ≡ ys ++ zs
front_part xs ys zs a k n h e at = take-put_mid a k xs zs n at h ∙ ap (λ l. l ++ zs) e

-- how long a part is that is lent behind a front of s elements
pub part_long : (xs ds : List ℕ) (s k n : ℕ) → length ds ≡ s → k ≡ n → s + n ≤ length xs → length (take k (drop s (ds ++ post_of 0 s xs))) ≡ n
part_long xs ds s k n e is le =
    ap (λ l. length (take k l)) (drop-append-drop s xs ds s (omega arith) e) ∙ ap (λ m. length (take m (drop s xs))) is
    ∙ length-take-le n (drop s xs) (omega (arith, length-drop s xs))

-- old is as long as xs, begins with ys up to s, and is as xs from s on
record Begun (xs old ys : List ℕ) (s : ℕ) : Type 0 where
  long : length old ≡ length xs
  front : take s old ≡ ys
  behind : (n : ℕ) → s ≤ n → drop n old ≡ drop n xs

-- one part more
part_more : (xs old ys zs : List ℕ) (s t k : ℕ) → Begun xs old ys s → t ≡ s + length zs → k ≡ length zs → t ≤ length xs → Begun xs (put_mid s k old zs) (ys ++ zs) t
part_more xs old ys zs s t k b et ek le =
    let l = b.long in
    record {
      long = length-put_mid s k old zs (omega arith) (sym ek) ∙ l;
      front = front_part old ys zs s k t (omega arith) b.front et;
      behind = λ n h. drop-put_mid s k old zs n (omega arith) (omega arith) (sym ek) ∙ b.behind n (omega arith);
    }

-- three parts one behind the other, and what lies behind them
pub three_parts : (xs ds bs cs : List ℕ) (s t u j k m : ℕ) → length ds ≡ s → j ≡ s → t ≡ s + length bs → k ≡ length bs → u ≡ t + length cs → m ≡ length cs → u ≤ length xs
    → put_mid t m (put_mid s k (ds ++ post_of 0 j xs) bs) cs ≡ (ds ++ (bs ++ cs)) ++ drop u xs
three_parts xs ds bs cs s t u j k m ea ej et ek eu em le =
    let old = ds ++ post_of 0 j xs in
    let begun : Begun xs old ds s = record {
      long = length-append ds (drop j xs) ∙ omega (arith, length-drop j xs);
      front = take_at ds (drop j xs) s ea;
      behind = λ n h. drop-append-drop j xs ds n (omega arith) (ea ∙ sym ej);
    } in
    let p = part_more xs old ds bs s t k begun et ek (omega arith) in
    let q = part_more xs (put_mid s k old bs) (ds ++ bs) cs t u m p eu em le in
    let new = put_mid t m (put_mid s k old bs) cs in
    sym (take-append-drop u new) ∙ ap (λ l. l ++ drop u new) (q.front ∙ append_assoc ds bs cs) ∙ ap (λ l. (ds ++ (bs ++ cs)) ++ l) (q.behind u (omega arith))

pub same_parts : {ds bs cs ds' bs' cs' : List ℕ} (rest : List ℕ) → ds ≡ ds' → bs ≡ bs' → cs ≡ cs' → (ds ++ (bs ++ cs)) ++ rest ≡ (ds' ++ (bs' ++ cs')) ++ rest
same_parts rest p q r = λ i. (p i ++ (q i ++ r i)) ++ rest
