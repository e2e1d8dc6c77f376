-- Numbers as they are written are numbers as they are read.
use Rattle.std.proofs.Common.{◌≡◌, ℕ, ◌+◌, ◌-◌, ◌*◌, ◌/◌, ◌%◌, ◌^◌, ◌<◌, ◌≤◌, true, false, List, [], ◌∷◌, ◌++◌, length, get_or, drop, Some, None, decimal, sym, refl, ap, ◌∙◌, append_assoc, arith, length-append, length-drop}
use Rattle.std.specs.List.{prefix_len}
use Rattle.std.proofs.lemmas.Fmt.{decimal_by_steps, decimal_nonempty}
use Rattle.std.proofs.lemmas.List.{append-nil, drop-drop, drop_at}
use Rattle.std.proofs.lemmas.Bool.{cond-true, cond-false, lt-ltb}
use Rattle.std.proofs.lemmas.Bool.Decides.{nat_tests}
use Rattle.netpbm.specs.Words.{separator, digit, word_from, start, word, stop, spelled, capped, number_at}
use Rattle.netpbm.proofs.Words.{spelled-digit, capped_some}

-- digits that spell n, whatever follows them: no separator among them, and no gap before them
pub record DigitsOf (n : ℕ) (ds : List ℕ) : Type 0 where
  pub whole : (more : List ℕ) → word_from (ds ++ more) ≡ ds ++ word_from more
  pub first : (more : List ℕ) → prefix_len separator (ds ++ more) ≡ 0
  pub spells : (more : List ℕ) → spelled 0 (ds ++ more) ≡ spelled n more

not_separator : (d : ℕ) → d < 10 → separator (48 + d) ≡ false
not_separator d h = grind (arith, nat_tests)

is_digit : (d : ℕ) → d < 10 → digit (48 + d) ≡ true
is_digit d h = grind (arith, nat_tests)

word-digit : (d : ℕ) (more : List ℕ) → d < 10 → word_from ((48 + d) ∷ more) ≡ (48 + d) ∷ word_from more
word-digit d more h = cond-false (separator (48 + d)) [] ((48 + d) ∷ word_from more) (not_separator d h)

spelled_one : (m d : ℕ) (more : List ℕ) → d < 10 → spelled m ((48 + d) ∷ more) ≡ spelled (m * 10 + d) more
spelled_one m d more h =
    let e : m * 10 + (48 + d - 48) ≡ m * 10 + d = omega arith in
    spelled-digit m (48 + d) more (is_digit d h) ∙ ap (λ n. spelled n more) e

one_digit : (n : ℕ) → n < 10 → DigitsOf n ((48 + n) ∷ [])
one_digit n h =
    let e : 0 * 10 + n ≡ n = omega arith in
    record {
      whole = λ more. word-digit n more h;
      first = λ more. cond-false (separator (48 + n)) (1 + prefix_len separator more) 0 (not_separator n h);
      spells = λ more. spelled_one 0 n more h ∙ ap (λ k. spelled k more) e;
    }

more_digits : (n : ℕ) (ds : List ℕ) → 10 ≤ n → DigitsOf (n / 10) ds → DigitsOf n (ds ++ ((48 + n % 10) ∷ []))
more_digits n ds h before =
    let low : n % 10 < 10 = omega arith in
    let e : n / 10 * 10 + n % 10 ≡ n = omega arith in
    let last = (48 + n % 10) ∷ [] in
    record {
      whole = λ more. ap word_from (append_assoc ds last more) ∙ before.whole ((48 + n % 10) ∷ more)
          ∙ ap (λ l. ds ++ l) (word-digit (n % 10) more low) ∙ sym (append_assoc ds last (word_from more));
      first = λ more. ap (prefix_len separator) (append_assoc ds last more) ∙ before.first ((48 + n % 10) ∷ more);
      spells = λ more. ap (spelled 0) (append_assoc ds last more) ∙ before.spells ((48 + n % 10) ∷ more)
          ∙ spelled_one (n / 10) (n % 10) more low ∙ ap (λ k. spelled k more) e;
    }

pub digits_of_decimal : (n : ℕ) → n < 2 ^ 64 → DigitsOf n (decimal n)
digits_of_decimal = decimal_by_steps DigitsOf one_digit more_digits

-- separators before what is none
gap_leads : (gap ys : List ℕ) → ((k : ℕ) → k < length gap → separator (get_or gap k 0) ≡ true) → prefix_len separator ys ≡ 0 → prefix_len separator (gap ++ ys) ≡ length gap
gap_leads [] ys all e = e
gap_leads (b ∷ gs) ys all e =
    cond-true (separator b) (1 + prefix_len separator (gs ++ ys)) 0 (all 0 (omega arith))
    ∙ omega (arith, gap_leads gs ys (λ k h. all (Prim.Native.Nat.suc k) (omega arith)) e)

-- a number behind a gap is read, and what follows it comes next
pub record NumberFound (input more : List ℕ) (at n width : ℕ) : Type 0 where
  pub value : number_at input at ≡ Some n
  pub next : drop (stop input at) input ≡ more
  pub end : stop input at ≡ at + width

pub number_found : (input gap more : List ℕ) (at n : ℕ) → ((k : ℕ) → k < length gap → separator (get_or gap k 0) ≡ true) → n ≤ 65535 → word_from more ≡ []
    → drop at input ≡ gap ++ (decimal n ++ more) → NumberFound input more at n (length gap + length (decimal n))
number_found input gap more at n all low ended e =
    let small : n < 2 ^ 64 = omega arith in
    let ds = decimal n in
    let of = digits_of_decimal n small in
    let s : start input at ≡ at + length gap = ap (λ l. at + prefix_len separator l) e ∙ ap (λ k. at + k) (gap_leads gap (ds ++ more) all (of.first more)) in
    let d : drop (start input at) input ≡ ds ++ more =
    ap (λ k. drop k input) s ∙ sym (drop-drop (length gap) at input) ∙ ap (drop (length gap)) e ∙ drop_at gap (ds ++ more) (length gap) refl in
    let w : word input at ≡ ds = ap word_from d ∙ of.whole more ∙ ap (λ l. ds ++ l) ended ∙ append-nil ds in
    let long = ap length d in
    let some = decimal_nonempty n small in
    let inside : start input at < length input = omega (arith, length-drop (start input at) input, length-append ds more) in
    let spelt : spelled 0 ds ≡ Some n = ap (spelled 0) (sym (append-nil ds)) ∙ of.spells [] in
    record {
      value = cond-true _ (capped (spelled 0 (word input at))) None (lt-ltb (start input at) (length input) inside)
          ∙ ap (λ l. capped (spelled 0 l)) w ∙ ap capped spelt ∙ capped_some n low;
      next = ap (λ l. drop (start input at + length l) input) w ∙ sym (drop-drop (length ds) (start input at) input) ∙ ap (drop (length ds)) d ∙ drop_at ds more (length ds) refl;
      end = ap (λ l. start input at + length l) w ∙ omega arith;
    }
