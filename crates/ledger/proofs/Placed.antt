-- A part of a list written anew.
use Rattle.std.proofs.Common.{◌≡◌, ℕ, ◌+◌, ◌-◌, ◌<◌, ◌≤◌, List, ◌++◌, length, get_or, take, drop, ap, ◌∙◌, arith}
use borrow.Rule.Slice.PartMut.{put_mid}
use Rattle.std.proofs.lemmas.List.{drop-drop, get_or_append_left, get_or-append-add, get_or-take, get_or-drop, length-take-le, take-append-drop}
use Rattle.ledger.specs.Files.{put}

module _ {X : Type 0} (start : ℕ) (new old : List X) where
  pub put_is : (k : ℕ) → length new ≡ k → put_mid start k old new ≡ put start new old
  put_is k e = ap (λ (ys : List X). take start old ++ (new ++ ys)) (drop-drop k start old ∙ ap (λ (n : ℕ). drop n old) {x = start + k} {y = start + length new} (omega arith))

  -- what lies in the part is new
  pub put_in : (d : X) (i : ℕ) → start ≤ length old → i < length new → get_or (put start new old) (start + i) d ≡ get_or new i d
  put_in d i l h =
      let t = length-take-le start old l in
      ap (λ (n : ℕ). get_or (put start new old) n d) {x = start + i} {y = length (take start old) + i} (omega (arith, t))
      ∙ get_or-append-add (take start old) (new ++ drop (start + length new) old) i d
      ∙ get_or_append_left new (drop (start + length new) old) d i h

  -- what lies before it stays,
  pub put_below : (d : X) (i : ℕ) → start ≤ length old → i < start → get_or (put start new old) i d ≡ get_or old i d
  put_below d i l h =
      let t = length-take-le start old l in
      get_or_append_left (take start old) (new ++ drop (start + length new) old) d i (omega (arith, t)) ∙ get_or-take start old i d h

  -- and so does what lies after it
  pub put_above : (d : X) (i : ℕ) → start ≤ length old → start + length new ≤ i → get_or (put start new old) i d ≡ get_or old i d
  put_above d i l h =
      let t = length-take-le start old l in
      let j = i - (start + length new) in
      ap (λ (n : ℕ). get_or (put start new old) n d) {x = i} {y = length (take start old) + (length new + j)} (omega (arith, t))
      ∙ get_or-append-add (take start old) (new ++ drop (start + length new) old) (length new + j) d
      ∙ get_or-append-add new (drop (start + length new) old) j d
      ∙ get_or-drop (start + length new) old j d
      ∙ ap (λ (n : ℕ). get_or old n d) {x = start + length new + j} {y = i} (omega arith)

-- a part that is put back as it was
pub put_back : {X : Type 0} (start k : ℕ) (xs : List X) → put_mid start k xs (take k (drop start xs)) ≡ xs
put_back {X} start k xs = ap (λ (ys : List X). take start xs ++ ys) (take-append-drop k (drop start xs)) ∙ take-append-drop start xs
