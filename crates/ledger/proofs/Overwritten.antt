-- A list that is written place by place, until it is another one.
use Rattle.std.proofs.Common.{◌≡◌, ℕ, ◌+◌, ◌<◌, ◌≤◌, List, [], ◌∷◌, ◌++◌, length, get_or, take, drop, set, sym, ap, ◌∙◌, arith}
use Rattle.std.proofs.lemmas.List.{take_more, take_more_set, take_all, drop_all, drop_more, set_at, get_or_at, append_assoc, append-nil, length-take-le}

module _ {X : Type 0} (d : X) (new : List X) where
  -- the front of a new list
  pub front_more : (out : List X) (i : ℕ) (x : X) → i < length new → i < length out → x ≡ get_or new i d → take i out ≡ take i new
      → take (i + 1) (set out i x) ≡ take (i + 1) new
  front_more out i x ln lo e h = take_more_set out i x lo ∙ rw (h, e) (sym (take_more new i d ln))

  pub front_end : (out : List X) (i : ℕ) → length new ≤ i → length out ≤ i → take i out ≡ take i new → out ≡ new
  front_end out i ln lo h = sym (take_all i out lo) ∙ h ∙ take_all i new ln

  -- the front of a new list over an old one
  module _ (old : List X) (same : length new ≡ length old) where
    pub over_more : (out : List X) (i : ℕ) (x : X) → i < length old → x ≡ get_or new i d → out ≡ take i new ++ drop i old
        → set out i x ≡ take (i + 1) new ++ drop (i + 1) old
    over_more out i x l e h =
        ap (λ (ys : List X). set ys i x) h
        ∙ ap (λ (ys : List X). set (take i new ++ ys) i x) (drop_more old i d l)
        ∙ set_at (take i new) (get_or old i d) (drop (i + 1) old) x i (length-take-le i new (omega arith))
        ∙ rw e (sym (append_assoc (take i new) (get_or new i d ∷ []) (drop (i + 1) old)))
        ∙ ap (λ (ys : List X). ys ++ drop (i + 1) old) (sym (take_more new i d (omega arith)))

    -- the place that is written next still has the old element
    pub over_at : (out : List X) (i : ℕ) → i < length old → out ≡ take i new ++ drop i old → get_or out i d ≡ get_or old i d
    over_at out i l h =
        ap (λ (ys : List X). get_or ys i d) h
        ∙ ap (λ (ys : List X). get_or (take i new ++ ys) i d) (drop_more old i d l)
        ∙ get_or_at (take i new) (get_or old i d) (drop (i + 1) old) d i (length-take-le i new (omega arith))

    pub over_end : (out : List X) (i : ℕ) → length old ≤ i → out ≡ take i new ++ drop i old → out ≡ new
    over_end out i l h = h ∙ rw (take_all i new (omega arith), drop_all i old l) (append-nil new)
