-- The place of a pair among the fixes, and what a fix that is put there leaves.
use Rattle.std.proofs.Common.{refl, ◌≡◌, ℕ, suc, ◌+◌, ◌<◌, ◌≤◌, max, true, false, cond, List, [], ◌∷◌, ◌++◌, ◌||◌, length, map, take, drop, set, is_some, nat_lt, position, Some, ap, ◌∙◌, arith, ⊎_elim}
use Rattle.std.specs.Cmp.{IsEquivalence}
use Rattle.std.specs.List.{IsDistinct, position_or_len}
use Rattle.std.specs.Set.{distinct_count}
use Rattle.std.proofs.lemmas.Grind.{common_steps}
use Rattle.std.proofs.lemmas.Bool.{cases_Bool, cases_lt}
use Rattle.std.proofs.lemmas.List.{set_split, length-map, length-take-le}
use Rattle.std.proofs.lemmas.List.Sums.{prefix_len-le-length}
use Rattle.std.proofs.lemmas.Map.Made.{distinct_count-from_IsDistinct}
use Rattle.std.proofs.lemmas.Map.Keys.{IsDistinct-push}
use Rattle.std.proofs.Math.Seq.{take-set-lt}
use Rattle.book.specs.Correcting.{same_pair}
use Rattle.corrections.specs.declared.fixes.Fix.{Fix}
use Rattle.corrections.specs.declared.fixes.Fixes.{Fixes}
use Rattle.corrections.specs.Kept.{kept, pairs}
use Rattle.corrections.specs.Fixes.{Distinct, Keeps, is_for, pair_of, seek}
use Rattle.corrections.specs.Pairs.{among, pairs_with, takes_pair}
use Rattle.limits.specs.declared.TheConstants.{MOST_PAIRS}

same_pair_equiv : IsEquivalence same_pair
same_pair_equiv = record { refl = λ p. grind arith; symm = λ p q. grind arith; congr = λ p q r e. grind (arith, common_steps, e) }

distinct_with : (pairs : List (ℕ × ℕ)) (pair : ℕ × ℕ) → IsDistinct same_pair pairs → IsDistinct same_pair (pairs_with pairs pair)
distinct_with pairs pair d =
    ⊎_elim
    (λ (t : among pairs pair ≡ true). rw t d)
    (λ (t : among pairs pair ≡ false). rw t (IsDistinct-push same_pair_equiv pairs pair d t))
    (cases_Bool (among pairs pair))

-- the place of a pair among the fixes, or their count
abbrev pub place_of : List Fix → ℕ → ℕ → ℕ
place_of fixes kind member = position_or_len (is_for kind member) fixes

pub place_le : (fixes : List Fix) (kind member : ℕ) → place_of fixes kind member ≤ length fixes
place_le fixes kind member = prefix_len-le-length _ fixes

-- ---- a fix in the place of another, or after all of them
abbrev placed : List Fix → ℕ → Fix → List Fix
placed fixes p x = take p fixes ++ (x ∷ drop (suc p) fixes)

take_set_in : (n : ℕ) (list : List Fix) (i : ℕ) (x : Fix) → take n (set list i x) ≡ set (take n list) i x
take_set_in n list i x = ⊎_elim (λ (l : i < n). take-set-lt n list i x l) (λ (h : n ≤ i). grind (arith, common_steps)) (cases_lt i n)

put_list : (used p : ℕ) (list : List Fix) (x : Fix) → used ≤ length list → p ≤ used → p < length list → take (max used (p + 1)) (set list p x) ≡ placed (take used list) p x
put_list used p list x room l h =
    let u = length-take-le used list room in
    ⊎_elim
    (λ (q : p < used).
    let s = set_split (take used list) p x (omega (arith, u)) in
    let m : max used (p + 1) ≡ used = omega arith in
    rw m (take_set_in used list p x ∙ s))
    (λ (q : used ≤ p). grind (arith, common_steps))
    (cases_lt p used)

module _ (kind member units : ℕ) where
  -- the pair is found with its units, and every other as it was
  seek_placed : (fixes : List Fix) (k m : ℕ) → seek (placed fixes (place_of fixes kind member) (record { pair = record { kind = kind; member = member }; units = units })) k m ≡ cond (same_pair (k, m) (kind, member)) (Some units) (seek fixes k m)
  seek_placed [] k m = grind arith
  seek_placed (f ∷ fixes) k m =
      let rest = seek_placed fixes k m in
      ⊎_elim
      (λ (t : is_for kind member f ≡ true). rw t (grind arith))
      (λ (t : is_for kind member f ≡ false).
      let later : place_of (f ∷ fixes) kind member ≡ suc (place_of fixes kind member) = rw t (omega arith) in
      ⊎_elim
      (λ (u : is_for k m f ≡ true). let other : same_pair (k, m) (kind, member) ≡ false = grind arith in rw (later, u, other) refl)
      (λ (u : is_for k m f ≡ false). rw (later, u) rest)
      (cases_Bool (is_for k m f)))
      (cases_Bool (is_for kind member f))

  -- the pairs are as they were, or that pair is after them
  pairs_placed : (fixes : List Fix) → map pair_of (placed fixes (place_of fixes kind member) (record { pair = record { kind = kind; member = member }; units = units })) ≡ pairs_with (map pair_of fixes) (kind, member)
  pairs_placed [] = refl
  pairs_placed (f ∷ fixes) =
      let rest = pairs_placed fixes in
      ⊎_elim
      (λ (t : is_for kind member f ≡ true). let k : kind ≡ f.pair.kind = grind arith in let m : member ≡ f.pair.member = grind arith in rw (t, k, m) refl)
      (λ (t : is_for kind member f ≡ false).
      let later : place_of (f ∷ fixes) kind member ≡ suc (place_of fixes kind member) = rw t (omega arith) in
      rw (later, t) (grind (arith, rest)))
      (cases_Bool (is_for kind member f))

-- ---- whether a pair is taken, by its place
among_place : (fixes : List Fix) (kind member : ℕ) → among (map pair_of fixes) (kind, member) ≡ nat_lt (place_of fixes kind member) (length fixes)
among_place [] kind member = refl
among_place (f ∷ fixes) kind member =
    let rest = among_place fixes kind member in
    ⊎_elim
    (λ (t : is_for kind member f ≡ true). rw t (grind arith))
    (λ (t : is_for kind member f ≡ false). rw t (grind (arith, rest)))
    (cases_Bool (is_for kind member f))

-- as no pair is there twice, the pairs are as many as the fixes
pub takes_kept : (s : Fixes) (kind member : ℕ) → takes_pair (pairs s) (kind, member) ≡ (is_some (position (is_for kind member) (kept s)) || nat_lt s.used MOST_PAIRS)
takes_kept s kind member =
    let n : distinct_count same_pair (pairs s) ≡ s.used = distinct_count-from_IsDistinct same_pair_equiv (pairs s) s.distinct ∙ length-map (kept s) pair_of ∙ length-take-le s.used s.list (omega (arith, s.room, s.long)) in
    let a = among_place (kept s) kind member in
    rw (a, n) (grind (arith, common_steps))

-- ---- the fixes after one is put at its pair's place, or after the others
-- its pair is among the pairs and has its units, the others are as they were, and no pair is there twice
abbrev pub Put : List Fix → List Fix → Fix → Type 0
Put old new x =
    (map pair_of new ≡ pairs_with (map pair_of old) (pair_of x))
    × Keeps old new (pair_of x) x.units
    × Distinct new

pub put_at : (used n p : ℕ) (list : List Fix) (x : Fix) → used ≤ length list → p ≡ place_of (take used list) x.pair.kind x.pair.member → p < length list → n ≡ max used (p + 1)
    → Distinct (take used list) → Put (take used list) (take n (set list p x)) x
put_at used n p list x room at inside last d =
    let old : List Fix = take used list in
    let h : p ≤ used = omega (arith, at, length-take-le used list room, place_le old x.pair.kind x.pair.member) in
    let e : take n (set list p x) ≡ placed old (place_of old x.pair.kind x.pair.member) x =
    ap (λ (i : ℕ). take i (set list p x)) last ∙ put_list used p list x room h inside ∙ ap (λ (i : ℕ). placed old i x) at in
    let pairs = pairs_placed x.pair.kind x.pair.member x.units old in
    rw e (pairs, seek_placed x.pair.kind x.pair.member x.units old, rw pairs (distinct_with (map pair_of old) (pair_of x) d))
