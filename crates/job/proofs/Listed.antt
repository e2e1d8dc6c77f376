-- Lists of losses, square by square and row by row.
use Rattle.std.proofs.Common.{◌≡◌, ℕ, ◌+◌, ◌-◌, ◌<◌, ◌≤◌, Bool, true, false, cond, ◌&&◌, ◌||◌, ltb, List, [], ◌∷◌, ◌++◌, map, length, take, drop, set, sym, refl, ap, ◌∙◌, subst, arith}
use Rattle.std.proofs.lemmas.List.{take_more_set, drop-set-lt, drop-drop, take-append-drop, map_push}
use Rattle.std.proofs.lemmas.Bool.{cond-true, cond-false, le-ltb, or_from}
use Rattle.tone.specs.Algebra.{Algebra}
use Rattle.diffusion.specs.Bands.{standing}
use Rattle.diffusion.specs.Neighbourhoods.{Neighbourhood, baron}
use Rattle.model.specs.Calls.{Listed, listed, list_at}
use Rattle.model.specs.Calls.Answer.{Count}
use Rattle.job.specs.Listings.{lost_below, Listing}
use Rattle.job.specs.Shown.{tone_at}
use Rattle.job.proofs.Barons.{lost-none, lost_more, lost-same, lost_grows, count_more, count_same}

-- lists that agree behind k agree behind more
behind : {X : Type 0} (xs ys : List X) (k m : ℕ) → k ≤ m → drop k xs ≡ drop k ys → drop m xs ≡ drop m ys
behind xs ys k m le e =
    let at : k + (m - k) ≡ m = omega arith in
    ap (λ n. drop n xs) (sym at) ∙ sym (drop-drop (m - k) k xs) ∙ ap (drop (m - k)) e ∙ drop-drop (m - k) k ys ∙ ap (λ n. drop n ys) at

behind_set : {X : Type 0} (xs ys : List X) (k : ℕ) (x : X) → drop k xs ≡ drop k ys → drop (k + 1) (set xs k x) ≡ drop (k + 1) ys
behind_set xs ys k x e = drop-set-lt (k + 1) xs k x (omega arith) ∙ behind xs ys k (k + 1) (omega arith) e

module _ {T : Type 0} (tone : Algebra T) (squares : Neighbourhood) (codes : List ℕ) (amounts : List T) where
  pub listing_none : (ps : List ℕ) (es : List T) → Listing tone squares codes amounts 0 0 ps ps es es
  listing_none ps es = record {
    many = ap length (sym (lost-none squares codes));
    places = sym (lost-none squares codes);
    places_behind = refl;
    errors = ap (map (tone_at tone amounts)) (sym (lost-none squares codes));
    errors_behind = refl;
  }

  pub listing_at : {n m k i : ℕ} {old_ps ps new_ps : List ℕ} {old_es es new_es : List T} → n ≡ m → i ≡ k → new_ps ≡ ps → new_es ≡ es
      → Listing tone squares codes amounts n k old_ps ps old_es es → Listing tone squares codes amounts m i old_ps new_ps old_es new_es
  listing_at {n} {m} {k} {i} {old_ps} {ps} {new_ps} {old_es} {es} {new_es} place count places errors l =
      subst (λ xs. Listing tone squares codes amounts m i old_ps new_ps old_es xs) (sym errors)
      (subst (λ xs. Listing tone squares codes amounts m i old_ps xs old_es es) (sym places)
      (subst (λ x. Listing tone squares codes amounts m x old_ps ps old_es es) (sym count)
      (subst (λ x. Listing tone squares codes amounts x k old_ps ps old_es es) place l)))

  -- one square more that is lost
  pub listing_more : (n k : ℕ) (old_ps ps : List ℕ) (old_es es : List T) (x : T) → Listing tone squares codes amounts n k old_ps ps old_es es
      → (standing codes n && baron squares n) ≡ true → k < length ps → k < length es → x ≡ tone_at tone amounts n
      → Listing tone squares codes amounts (n + 1) (k + 1) old_ps (set ps k n) old_es (set es k x)
  listing_more n k old_ps ps old_es es x l is room room-too read =
      let more = sym (lost_more squares codes n is) in
      record {
        many = count_more squares codes n k is l.many;
        places = take_more_set ps k n room ∙ ap (λ xs. xs ++ n ∷ []) l.places ∙ more;
        places_behind = behind_set ps old_ps k n l.places_behind;
        errors = take_more_set es k x room-too ∙ ap (λ xs. xs ++ x ∷ []) l.errors
            ∙ ap (λ y. map (tone_at tone amounts) (lost_below squares codes n) ++ y ∷ []) read
            ∙ sym (map_push (tone_at tone amounts) (lost_below squares codes n) n) ∙ ap (map (tone_at tone amounts)) more;
        errors_behind = behind_set es old_es k x l.errors_behind;
      }

  -- and one that is not
  pub listing_same : (n k : ℕ) (old_ps ps : List ℕ) (old_es es : List T) → Listing tone squares codes amounts n k old_ps ps old_es es
      → (standing codes n && baron squares n) ≡ false → Listing tone squares codes amounts (n + 1) k old_ps ps old_es es
  listing_same n k old_ps ps old_es es l is =
      let same = sym (lost-same squares codes n is) in
      record {
        many = count_same squares codes n k is l.many;
        places = l.places ∙ same;
        places_behind = l.places_behind;
        errors = l.errors ∙ ap (map (tone_at tone amounts)) same;
        errors_behind = l.errors_behind;
      }

  -- a row behind the rows above
  pub listing_chain : (n m k i : ℕ) (old_ps ps new_ps : List ℕ) (old_es es new_es : List T) → n ≤ m
      → Listing tone squares codes amounts n k old_ps ps old_es es → Listing tone squares codes amounts m i ps new_ps es new_es
      → Listing tone squares codes amounts m i old_ps new_ps old_es new_es
  listing_chain n m k i old_ps ps new_ps old_es es new_es le l r =
      let kept = l.many in
      let now = r.many in
      let rises : k ≤ i = omega (arith, lost_grows squares codes n m le) in
      record {
        many = r.many;
        places = r.places;
        places_behind = r.places_behind ∙ behind ps old_ps k i rises l.places_behind;
        errors = r.errors;
        errors_behind = r.errors_behind ∙ behind es old_es k i rises l.errors_behind;
      }

-- what is answered, by the test of the bands' lengths and then by those of the lists
module _ {T : Type 0} (fit : Bool) (is : fit ≡ true) (ps : List ℕ) (es : List T) (places : List ℕ) (errors : List T) (refused : Listed T) where
  pub list_whole : (k : ℕ) (new_ps : List ℕ) (new_es : List T) → k ≡ length ps → length ps ≤ length places → length ps ≤ length errors
      → take k new_ps ≡ ps → drop k new_ps ≡ drop k places → take k new_es ≡ es → drop k new_es ≡ drop k errors
      → listed (Count k) new_ps new_es ≡ cond fit (list_at ps es places errors) refused
  list_whole k new_ps new_es many room room-too front rest front-too rest-too =
      let whole : new_ps ≡ ps ++ drop k places = sym (take-append-drop k new_ps) ∙ ap (λ l. l ++ drop k new_ps) front ∙ ap (λ l. ps ++ l) rest in
      let whole-too : new_es ≡ es ++ drop k errors = sym (take-append-drop k new_es) ∙ ap (λ l. l ++ drop k new_es) front-too ∙ ap (λ l. es ++ l) rest-too in
      ap (λ l. listed (Count k) l new_es) whole
      ∙ ap (λ l. listed (Count k) (ps ++ drop k places) l) whole-too
      ∙ ap (λ n. listed (Count n) (ps ++ drop n places) (es ++ drop n errors)) many
      ∙ sym (cond-true fit (list_at ps es places errors) refused is
      ∙ cond-false (ltb (length places) (length ps) || ltb (length errors) (length ps)) _ _
      (or_from _ _ (le-ltb (length places) (length ps) room) (le-ltb (length errors) (length ps) room-too)))
