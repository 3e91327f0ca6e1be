-- No units are above 2,000,000,000.
use Rattle.std.proofs.Common.{◌≡◌, ℕ, zero, suc, ◌+◌, ◌-◌, ◌<◌, ◌≤◌, List, [], ◌∷◌, ◌++◌, length, get_or, drop, replicate, Some, None, Option, refl, ⊎_elim, arith}
use Rattle.std.proofs.lemmas.List.{get_or_append_left, get_or-append_right, get_or-drop}
use Rattle.std.proofs.lemmas.Bool.{cases_lt}
use Rattle.std.proofs.lemmas.Grind.{common_steps}
use Rattle.refusal.specs.Answers.{Answer, done, refused, next}
use Rattle.refusal.proofs.Apart.{refused_done}
use Rattle.refusal.specs.declared.Layer.TheVariants as layer
use Rattle.bottom_books.specs.Tables.{cell, UnitsInRange, row_rule, rows_rule}
use Rattle.limits.specs.declared.TheConstants.{MOST_MEMBERS, MOST_UNITS}

-- a row without units
abbrev pub zeros : List ℕ
zeros = 0 ∷ 0 ∷ 0 ∷ 0 ∷ 0 ∷ 0 ∷ 0 ∷ []

pub blank_cell : (n kind member : ℕ) → cell (replicate n zeros) kind member ≡ 0
blank_cell n kind member = grind (arith, common_steps)

-- rows that were all read: the first and the others
pub parted : (o : Option (List ℕ)) (t : Answer (List (List ℕ))) (out : List (List ℕ)) → next (row_rule o) (λ units. next t (λ more. done (units ∷ more))) ≡ done out
    → (units : List ℕ) × (more : List (List ℕ)) × (o ≡ Some units) × (t ≡ done more) × (out ≡ units ∷ more)
parted None t out e = absurd (refused_done 2 layer.Book 0 out e)
parted (Some units) (done more) out e = (units, more, refl, refl, cc)
parted (Some units) (refused n l p) out e = absurd (refused_done n l p out e)

module _ {R : Type 0} (reads : R → Option (List ℕ)) (small : (row : R) (units : List ℕ) → reads row ≡ Some units → (k : ℕ) → get_or units k 0 ≤ MOST_UNITS) where
  pub read_small : (rows : List R) (out : List (List ℕ)) → rows_rule reads rows ≡ done out → UnitsInRange out
  read_small [] out e kind member =
      let n : out ≡ [] = cc in
      rw n (omega arith)
  read_small (r ∷ rows) out e kind member =
      let p = parted (reads r) (rows_rule reads rows) out e in
      rw p.4 (elim member as (λ (m : ℕ). cell (p.0 ∷ p.1) kind m ≤ MOST_UNITS) [ zero ↦ small r p.0 p.2 (kind - 1) | suc m ↦ read_small rows p.1 p.3 kind m ])

-- rows with blank ones after them
pub padded_small : (out : List (List ℕ)) (n : ℕ) → UnitsInRange out → UnitsInRange (out ++ drop n (replicate MOST_MEMBERS zeros))
padded_small out n small kind member =
    ⊎_elim
    (λ (l : member < length out). rw (get_or_append_left out (drop n (replicate MOST_MEMBERS zeros)) [] member l) (small kind member))
    (λ (l : length out ≤ member).
    rw (get_or-append_right out (drop n (replicate MOST_MEMBERS zeros)) (length out) member [] refl l, get_or-drop n (replicate MOST_MEMBERS zeros) (member - length out) [])
    (omega (arith, blank_cell MOST_MEMBERS kind (n + (member - length out)))))
    (cases_lt member (length out))
