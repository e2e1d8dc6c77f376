-- The calls and their answers; one call by the seven that it names. S is the bands, or the set of the fixed squares.
use Rattle.std.specs.Prelude.{ℕ, zero, suc, cond, ◌||◌, List, ◌++◌, length, take, drop, ◌==◌, nat_lt}

-- a part of a pool, cut to it
pub record Window : Type 0 where
  pub start : ℕ
  pub long : ℕ

pub data Call : Type 0 where
  Fix : ℕ → ℕ → Call
  Follow : List ℕ → Call
  Finish : Call
  Halt : Window → Call
  Resume : List ℕ → Call
  Tally : Call
  Losses : Window → Window → Call

pub data Answer (T : Type 0) : Type 0 where
  Code : ℕ → Answer T
  Followed : ℕ → ℕ → Answer T
  Count : ℕ → Answer T
  Resumed : Answer T
  Totals : T → T → T → T → Answer T
  Refused : ℕ → Answer T

-- what a call answers, and the state or the outputs after it
pub record Told (T S : Type 0) : Type 0 where
  pub answer : Answer T
  pub state : S

pub record Wrote (T : Type 0) : Type 0 where
  pub answer : Answer T
  pub out : List ℕ

pub record Listed (T : Type 0) : Type 0 where
  pub answer : Answer T
  pub places : List ℕ
  pub errors : List T

abbrev pub told : {T S : Type 0} → Answer T → S → Told T S
told a s = record { answer = a; state = s }

abbrev pub wrote : {T : Type 0} → Answer T → List ℕ → Wrote T
wrote a xs = record { answer = a; out = xs }

abbrev pub listed : {T : Type 0} → Answer T → List ℕ → List T → Listed T
listed a ps es = record { answer = a; places = ps; errors = es }

-- the seven calls on a state
pub record Acts (T S : Type 0) : Type 0 where
  pub fix : ℕ → ℕ → S → Told T S
  pub follow : List ℕ → S → Told T S
  pub finish : S → Told T S
  pub halt : S → List ℕ → Wrote T
  pub resume : List ℕ → S → Told T S
  pub tally : S → Answer T
  pub losses : S → List ℕ → List T → Listed T

-- by the refusal: the code and the state after, or the state as it was
abbrev pub fix_at : {T S : Type 0} → ℕ → ℕ → S → S → Told T S
fix_at zero code after s = told (Code code) after
fix_at (suc n) code after s = told (Refused (suc n)) s

-- by the refusal: 0 makes the state that of the record, 9 that of a new job
abbrev pub resume_at : {T S : Type 0} → ℕ → S → S → S → Told T S
resume_at n after new s = cond (n == 0) (told Resumed after) (cond (n == 9) (told (Refused n) new) (told (Refused n) s))

-- a record, or the losses, into the outputs
abbrev pub write_at : {T : Type 0} → List ℕ → List ℕ → Wrote T
write_at rec out = cond (nat_lt (length out) (length rec)) (wrote (Refused 6) out) (wrote (Count (length rec)) (rec ++ drop (length rec) out))

abbrev pub list_at : {T : Type 0} → List ℕ → List T → List ℕ → List T → Listed T
list_at ps es places errors = cond (nat_lt (length places) (length ps) || nat_lt (length errors) (length ps))
    (listed (Refused 6) places errors)
    (listed (Count (length ps)) (ps ++ drop (length ps) places) (es ++ drop (length ps) errors))

-- the memory lent for outputs, and a window into it
pub record Pools (T : Type 0) : Type 0 where
  pub bytes : List ℕ
  pub places : List ℕ
  pub errors : List T

abbrev pub pools : {T : Type 0} → List ℕ → List ℕ → List T → Pools T
pools bytes places errors = record { bytes = bytes; places = places; errors = errors }

abbrev pub inside : {X : Type 0} → Window → List X → List X
inside w xs = take w.long (drop w.start xs)

abbrev pub refill : {X : Type 0} → Window → List X → List X → List X
refill w xs ys = take w.start xs ++ (ys ++ drop w.long (drop w.start xs))

pub record Done (T S : Type 0) : Type 0 where
  pub answer : Answer T
  pub state : S
  pub pools : Pools T

abbrev pub done : {T S : Type 0} → Answer T → S → Pools T → Done T S
done a s o = record { answer = a; state = s; pools = o }

abbrev pub keep_pools : {T S : Type 0} → Pools T → Told T S → Done T S
keep_pools o t = done t.answer t.state o

abbrev pub fill_bytes : {T S : Type 0} → S → Window → Pools T → Wrote T → Done T S
fill_bytes s w o x = done x.answer s (pools (refill w o.bytes x.out) o.places o.errors)

abbrev pub fill_lists : {T S : Type 0} → S → Window → Window → Pools T → Listed T → Done T S
fill_lists s w v o x = done x.answer s (pools o.bytes (refill w o.places x.places) (refill v o.errors x.errors))

-- one call, with an output of its own
abbrev pub perform : {T S : Type 0} → Acts T S → Call → S → Pools T → Done T S
perform a (Fix row column) s o = keep_pools o (a.fix row column s)
perform a (Follow ps) s o = keep_pools o (a.follow ps s)
perform a Finish s o = keep_pools o (a.finish s)
perform a (Halt w) s o = fill_bytes s w o (a.halt s (inside w o.bytes))
perform a (Resume rec) s o = keep_pools o (a.resume rec s)
perform a Tally s o = done (a.tally s) s o
perform a (Losses w v) s o = fill_lists s w v o (a.losses s (inside w o.places) (inside v o.errors))

-- a function of the state
abbrev pub carry_told : {T S R : Type 0} → (S → R) → Told T S → Told T R
carry_told f t = told t.answer (f t.state)

abbrev pub carry : {T S R : Type 0} → (S → R) → Done T S → Done T R
carry f d = done d.answer (f d.state) d.pools
