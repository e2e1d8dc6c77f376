use Rattle.std.proofs.Common.{◌≡◌, ℕ, ◌+◌, ◌<◌, List, length, get_or, take, set, filter, sym, ap, ◌∙◌, arith, rules, tests}
use Rattle.std.specs.List.{enumerate_from}
use Rattle.std.proofs.lemmas.Iterator.{YieldsList-from_slice}
use Rattle.std.proofs.lemmas.Iterator.Consumers.{YieldsList-at, YieldsList-from_filter, YieldsList-from_enumerate, YieldsList-turn, YieldsList-end}
use Rattle.std.proofs.lemmas.List.{take_all, take_more, take_more_set, length_push}
use Rattle.std.proofs.lemmas.List.FromFn.{length-enumerate_from, get_or-enumerate_from}
use Rattle.bits.specs.Bits.{fixed}
use Rattle.job.proofs.writing.put_codes.Goals as goal

-- the pair at i of a list's elements with their places
record Placed (xs : List ℕ) (i at x : ℕ) : Type 0 where
  within : i < length xs
  place : at ≡ i
  element : x ≡ get_or xs i x

placed : (xs : List ℕ) (i at x : ℕ) → (i < length (enumerate_from 0 xs)) × (◌≡◌ {A = ℕ × ℕ} (at, x) (get_or (enumerate_from 0 xs) i (at, x))) → Placed xs i at x
placed xs i at x turn =
    let within : i < length xs = omega (arith, turn.0, length-enumerate_from 0 xs) in
    let pair : ◌≡◌ {A = ℕ × ℕ} (at, x) (0 + i, get_or xs i x) = turn.1 ∙ get_or-enumerate_from 0 xs i (at, x) within in
    record { within = within; place = omega (arith, ap (λ p. p.0) pair); element = ap (λ p. p.1) pair }

put : (xs out : List ℕ) (i at x j : ℕ) → length out ≡ length xs → Placed xs i at x → j ≡ i + 1 → take i out ≡ take i xs → take j (set out at x) ≡ take j xs
put xs out i at x j long p next so_far =
    let more = take_more xs i x p.within in
    let written = take_more_set out i x (omega (arith, p.within)) in
    rw (next, p.place) cc

pub bounds-out-at : goal.bounds-out-at
bounds-out-at c =
    let p = placed (filter fixed c.args.codes.now) _ _ _ (YieldsList-turn (YieldsList-at c.into_iter-at-iterator.ensures.into_iter_gives (YieldsList-from_enumerate (YieldsList-at c.enumerate-at-items.ensures.source (YieldsList-from_filter _ fixed (YieldsList-from_slice c.args.codes.now cc) c.filter.ensures.closure (λ x b q k. search (rules, tests)))) cc))
    c.loop-at.yielded _ c.loop-at.yielded_by _ _ (c.in-Some.at, c.in-Some.code) c.in-Some.is c.next.ensures.steps) in
    omega (arith, p.within, p.place)

pub loop-at-preserved : goal.loop-at-preserved
loop-at-preserved c =
    let p = placed (filter fixed c.args.codes.now) _ _ _ (YieldsList-turn (YieldsList-at c.into_iter-at-iterator.ensures.into_iter_gives (YieldsList-from_enumerate (YieldsList-at c.enumerate-at-items.ensures.source (YieldsList-from_filter _ fixed (YieldsList-from_slice c.args.codes.now cc) c.filter.ensures.closure (λ x b q k. search (rules, tests)))) cc))
    c.loop-at.yielded _ c.loop-at.yielded_by _ _ (c.in-Some.at, c.in-Some.code) c.in-Some.is c.next.ensures.steps) in
    put (filter fixed c.args.codes.now) c.loop-at.out _ _ _ _ (omega arith) p (length_push c.loop-at.yielded (c.in-Some.at, c.in-Some.code)) c.loop-at.invariant

pub returns : goal.returns
returns c =
    let xs = filter fixed c.args.codes.now in
    let all = (YieldsList-end (YieldsList-at c.into_iter-at-iterator.ensures.into_iter_gives (YieldsList-from_enumerate (YieldsList-at c.enumerate-at-items.ensures.source (YieldsList-from_filter _ fixed (YieldsList-from_slice c.args.codes.now cc) c.filter.ensures.closure (λ x b q k. search (rules, tests)))) cc))
    c.loop-at.yielded _ c.loop-at.yielded_by _ _ c.in-None.is c.next.ensures.steps).1 ∙ length-enumerate_from 0 xs in
    sym (take_all (length c.loop-at.yielded) c.loop-at.out (omega arith)) ∙ c.loop-at.invariant ∙ take_all (length c.loop-at.yielded) xs (omega arith)
