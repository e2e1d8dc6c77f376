-- One turn of the loop over the calls, and its end.
use Rattle.std.proofs.Common.{◌≡◌, ℕ, ◌+◌, ◌<◌, ◌≤◌, List, [], ◌∷◌, ◌++◌, map, length, get_or, take, drop, set, sym, refl, ap, ◌∙◌, ap₂, arith}
use Rattle.std.proofs.lemmas.List.{append-nil, append_assoc, map-append, take-append-drop, drop-drop, drop-set-lt, drop_more, drop_all, take_more_set, length-map, length-take-le}
use Rattle.diffusion.specs.Bands.{Bands}
use Rattle.model.specs.Jobs.{Job}
use Rattle.model.specs.Calls.{Pools, Done, done}
use Rattle.model.specs.Steps.{step}
use Rattle.model.specs.Runs.{Ran, run, ran_more}
use Rattle.calls.specs.declared.call.Call.{Call}
use Rattle.calls.specs.Works.{Outcome, call_of, answer_of, ran_of, filled}

-- answers in front of those of a run
abbrev pub onto : {T : Type 0} → List (Outcome T) → Ran T (Bands T) → Ran T (Bands T)
onto list r = record { answers = map answer_of list ++ r.answers; state = r.state; pools = r.pools }

module _ {T : Type 0} (p : Job T) (calls : List Call) (old : List (Outcome T)) (whole : Ran T (Bands T)) where
  -- the calls from i on, behind the answers before i, give the whole
  pub record Turn (i : ℕ) (list : List (Outcome T)) (b : Bands T) (o : Pools T) : Type 0 where
    pub rest : onto (take i list) (run (step p) (map call_of (drop i calls)) b o) ≡ whole
    pub same : drop i list ≡ drop i old

  pub turn : (i : ℕ) (c : Call) (list : List (Outcome T)) (a : Outcome T) (b b' : Bands T) (o o' : Pools T)
      → i < length calls → i < length list → c ≡ get_or calls i c → done (answer_of a) b' o' ≡ step p (call_of c) b o
      → Turn i list b o → Turn (i + 1) (set list i a) b' o'
  unfolding run
  turn i c list a b b' o o' l h at e k = record {
    rest =
        ap (λ xs. onto xs (run (step p) (map call_of (drop (i + 1) calls)) b' o')) (take_more_set list i a h)
        ∙ (λ j. record { answers = front j; state = (run (step p) (map call_of (drop (i + 1) calls)) b' o').state; pools = (run (step p) (map call_of (drop (i + 1) calls)) b' o').pools })
        ∙ ap (λ (d : Done T (Bands T)). onto (take i list) (ran_more d.answer (run (step p) (map call_of (drop (i + 1) calls)) d.state d.pools))) e
        ∙ ap (λ cs. onto (take i list) (run (step p) (map call_of cs) b o)) (sym (drop_more calls i c l ∙ ap (λ x. x ∷ drop (i + 1) calls) (sym at)))
        ∙ k.rest;
    same = drop-set-lt (i + 1) list i a (omega arith) ∙ sym (drop-drop 1 i list) ∙ ap (drop 1) k.same ∙ drop-drop 1 i old;
  }
    where
      front : map answer_of (take i list ++ a ∷ []) ++ (run (step p) (map call_of (drop (i + 1) calls)) b' o').answers
          ≡ map answer_of (take i list) ++ (answer_of a ∷ (run (step p) (map call_of (drop (i + 1) calls)) b' o').answers)
      front = ap (λ xs. xs ++ (run (step p) (map call_of (drop (i + 1) calls)) b' o').answers) (map-append answer_of (take i list) (a ∷ []))
          ∙ append_assoc (map answer_of (take i list)) (answer_of a ∷ []) _

  pub turned : (i : ℕ) (list : List (Outcome T)) (b : Bands T) (o : Pools T) → length calls ≤ i → i ≤ length list → Turn i list b o → ran_of list b o ≡ filled whole old
  unfolding run
  turned i list b o l h k =
      (λ j. record { answers = parts j; state = b; pools = o })
      ∙ ap (λ r. filled r old) (sym (ap (λ cs. onto (take i list) (run (step p) (map call_of cs) b o)) (drop_all i calls l)) ∙ k.rest)
    where
      size : length (map answer_of (take i list) ++ []) ≡ i
      size = ap length (append-nil (map answer_of (take i list))) ∙ length-map (take i list) answer_of ∙ length-take-le i list h

      parts : map answer_of list ≡ (map answer_of (take i list) ++ []) ++ map answer_of (drop (length (map answer_of (take i list) ++ [])) old)
      parts =
          ap (map answer_of) (sym (take-append-drop i list))
          ∙ map-append answer_of (take i list) (drop i list)
          ∙ ap₂ ◌++◌ (sym (append-nil (map answer_of (take i list)))) (ap (map answer_of) (k.same ∙ ap (λ n. drop n old) (sym size)))

  pub started : (b : Bands T) (o : Pools T) → run (step p) (map call_of calls) b o ≡ whole → Turn 0 old b o
  started b o e = record { rest = e; same = refl }
