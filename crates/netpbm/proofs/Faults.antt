-- The first fault among the samples, and the band up to it.
use Rattle.std.proofs.Common.{◌≡◌, ℕ, zero, suc, ◌+◌, ◌<◌, ◌≤◌, cond, List, [], ◌∷◌, ◌++◌, map, length, take, drop, set, is_some, Some, None, Option, sym, refl, ap, ◌∙◌, ⊎_elim, add-one, arith}
use Rattle.std.specs.List.{range_with_len}
use Rattle.std.proofs.lemmas.Bool.{cases_eq}
use Rattle.std.proofs.lemmas.List.{append_assoc, take_more_set, drop-set-lt, drop-drop, drop-append-le, take-append-drop, length-take-le}
use Rattle.std.proofs.lemmas.List.FromFn.{map-range_with_len_more}
use Rattle.netpbm.specs.Words.{after, stop, value_at}
use Rattle.netpbm.specs.Pgm.{Told, or_else, greatest_in, sample_fault, first_fault, sound, tone_of, tone_in, filled}

-- the fault of sample n
abbrev pub fault_of : List ℕ → ℕ → Option Told
fault_of input n = sample_fault input (greatest_in input) (after input (3 + n))

pub fault_more : (input : List ℕ) (n : ℕ) (o : Option Told) → first_fault input n ≡ None → fault_of input n ≡ o → first_fault input (n + 1) ≡ o
unfolding first_fault
fault_more input n o a b = rw add-one (ap (λ x. or_else x (fault_of input n)) a ∙ b)

pub sound_all : (input : List ℕ) (n : ℕ) → first_fault input n ≡ None → sound input n ≡ n
unfolding sound
sound_all input zero a = refl
sound_all input (suc n) a = ap (λ x. cond (is_some x) (sound input n) (suc n)) a

sound-step : (input : List ℕ) (n : ℕ) (f : Told) → first_fault input (suc n) ≡ Some f → sound input (suc n) ≡ sound input n
unfolding sound
sound-step input n f a = ap (λ x. cond (is_some x) (sound input n) (suc n)) a

fault_step : (input : List ℕ) (n : ℕ) (f : Told) → first_fault input n ≡ Some f → first_fault input (suc n) ≡ Some f
unfolding first_fault
fault_step input n f a = ap (λ x. or_else x (fault_of input n)) a

-- a fault stays the first one, and the samples before it are sound
pub fault_stays : (input : List ℕ) (i : ℕ) (f : Told) → first_fault input i ≡ None → fault_of input i ≡ Some f → (n : ℕ) → i < n → (first_fault input n ≡ Some f) × (sound input n ≡ i)
fault_stays input i f a b zero h = absurd (omega arith)
fault_stays input i f a b (suc n) h =
    ⊎_elim
    (λ e. let here : first_fault input (suc n) ≡ Some f = ap (first_fault input) (omega arith) ∙ fault_more input i (Some f) a b in
    (here, sound-step input n f here ∙ ap (sound input) (sym e) ∙ sound_all input i a))
    (λ ne. let before = fault_stays input i f a b n (omega arith) in
    let here = fault_step input n f before.0 in
    (here, sound-step input n f here ∙ before.1))
    (cases_eq i n)

-- one more tone in the band
pub band_more : (input band old : List ℕ) (i v : ℕ) → i < length band → v ≡ tone_in input i
    → take i band ≡ map (tone_in input) (range_with_len 0 i) → drop i band ≡ drop i old
    → (take (i + 1) (set band i v) ≡ map (tone_in input) (range_with_len 0 (i + 1))) × (drop (i + 1) (set band i v) ≡ drop (i + 1) old)
band_more input band old i v h is front back = (
  take_more_set band i v h ∙ ap (λ l. l ++ v ∷ []) front ∙ ap (λ x. map (tone_in input) (range_with_len 0 i) ++ x ∷ []) is ∙ sym (map-range_with_len_more (tone_in input) 0 i i (omega arith)),
  drop-set-lt (i + 1) band i v (omega arith) ∙ sym (drop-drop 1 i band) ∙ ap (drop 1) back ∙ drop-drop 1 i old,
)

pub band_is : (input band old : List ℕ) (i n : ℕ) → n ≡ i → take i band ≡ map (tone_in input) (range_with_len 0 i) → drop i band ≡ drop i old → band ≡ filled input n old
band_is input band old i n e front back =
    sym (take-append-drop i band) ∙ ap (λ l. l ++ drop i band) front ∙ ap (λ l. map (tone_in input) (range_with_len 0 i) ++ l) back ∙ ap (λ k. filled input k old) (sym e)

-- a front of the band that is filled fills the band
pub front_filled : (input front old : List ℕ) (i n c : ℕ) → n ≡ i → i ≤ c → c ≤ length old → take i front ≡ map (tone_in input) (range_with_len 0 i) → drop i front ≡ drop i (take c old)
    → front ++ drop c old ≡ filled input n old
front_filled input front old i n c e within room begun back =
    ap (λ xs. xs ++ drop c old) (band_is input front (take c old) i n e begun back)
    ∙ append_assoc (map (tone_in input) (range_with_len 0 n)) (drop n (take c old)) (drop c old)
    ∙ ap (λ ys. map (tone_in input) (range_with_len 0 n) ++ ys)
    (sym (drop-append-le n (take c old) (drop c old) (omega (arith, length-take-le c old room))) ∙ ap (drop n) (take-append-drop c old))

-- what is read at the position of sample i: its fault, its tone, and where sample i + 1 is
pub sample_fault_is : (input : List ℕ) (greatest at i : ℕ) → greatest ≡ greatest_in input → at ≡ after input (3 + i) → sample_fault input greatest at ≡ fault_of input i
sample_fault_is input greatest at i g p = rw (g, p) refl

pub tone_is : (input : List ℕ) (at i value tone : ℕ) → at ≡ after input (3 + i) → value ≡ value_at input at → tone ≡ tone_of value → tone ≡ tone_in input i
tone_is input at i value tone p v t = t ∙ v ∙ ap (value_at input) p

pub next_is : (input : List ℕ) (at i end : ℕ) → at ≡ after input (3 + i) → end ≡ stop input at → end ≡ after input (3 + (i + 1))
next_is input at i end p e =
    let next : suc (3 + i) ≡ 3 + (i + 1) = omega arith in
    e ∙ ap (stop input) p ∙ ap (after input) next
