-- What a month that passed its tests is known to keep.
use Rattle.std.proofs.Common.{◌≡◌, ℕ, zero, suc, ◌+◌, ◌*◌, ◌<◌, ◌≤◌, Bool, true, false, cond, ◌&&◌, eqb, leb, List, [], ◌∷◌, length, get_or, ℤ, pos, nat_abs, sum, refl, ⊎_elim, arith}
use Rattle.std.proofs.lemmas.Bool.{leb-true, eqb-true, and_parts, cases_eq}
use Rattle.refusal.specs.Answers.{Answer, done, refused, next}
use Rattle.refusal.specs.declared.Layer.{Layer}
use Rattle.refusal.proofs.Apart.{done_refused}
use Rattle.refusal.specs.declared.Layer.TheVariants as layer
use Rattle.statement.specs.Columns.{column}
use Rattle.statement.specs.Checks.{totals_rule, pools_rule, charge_rule}
use Rattle.limits.specs.declared.TheConstants.{MOST_CENTS, MOST_MEMBERS, MOST_UNITS}

abbrev Passed : Type 0
Passed = Answer (Unit {0})

kept : (b : Bool) (x : Passed) (n : ℕ) (l : Layer) (p : ℕ) → done tt ≡ cond b x (refused n l p) → (b ≡ true) × (done tt ≡ x)
kept true x n l p e = (refl, e)
kept false x n l p e = absurd (done_refused tt n l p e)

both : (t u : Passed) → done tt ≡ next t (λ _. u) → (done tt ≡ t) × (done tt ≡ u)
both (done v) u e = (refl, e)
both (refused n l p) u e = absurd (done_refused tt n l p e)

pub totals_all : (rows : List (List ℕ)) (k n : ℕ) → done tt ≡ totals_rule rows k n → (j : ℕ) → k ≤ j → j < k + n → sum (column rows j) ≤ MOST_UNITS
totals_all rows k zero e j low high = absurd (omega arith)
totals_all rows k (suc n) e j low high =
    let h = kept (leb (sum (column rows k)) MOST_UNITS) (totals_rule rows (k + 1) n) 8 layer.Ledger (k + 1) e in
    ⊎_elim
    (λ (i : j ≡ k). rw i (leb-true (sum (column rows k)) MOST_UNITS h.0))
    (λ (i : j ≡ k → ⊥). totals_all rows (k + 1) n h.1 j (omega arith) (omega arith))
    (cases_eq j k)

pub pools_all : (pools : List ℤ) (c : ℕ) → done tt ≡ pools_rule pools c → (i : ℕ) → nat_abs (get_or pools i (pos 0)) ≤ MOST_CENTS
pools_all [] c e i = omega arith
pools_all (p ∷ pools) c e zero = leb-true (nat_abs p) MOST_CENTS (kept (leb (nat_abs p) MOST_CENTS) (pools_rule pools (c + 1)) 9 layer.Ledger (c + 1) e).0
pools_all (p ∷ pools) c e (suc i) = pools_all pools (c + 1) (kept (leb (nat_abs p) MOST_CENTS) (pools_rule pools (c + 1)) 9 layer.Ledger (c + 1) e).1 i

pub passed : (pools : List ℤ) (rows : List (List ℕ)) (cells : ℕ) → done tt ≡ charge_rule pools rows cells
    → (length rows ≤ MOST_MEMBERS) × (cells ≡ 13 * length rows) × ((c : ℕ) → nat_abs (get_or pools c (pos 0)) ≤ MOST_CENTS) × ((k : ℕ) → k < 7 → sum (column rows k) ≤ MOST_UNITS)
passed pools rows cells e =
    let count = cond (leb 1 (length rows) && leb (length rows) MOST_MEMBERS) (next (totals_rule rows 0 7) (λ _. pools_rule pools 0)) (refused 4 layer.Ledger 0) in
    let long = kept (eqb cells (13 * length rows)) count 11 layer.Ledger 0 e in
    let few = kept (leb 1 (length rows) && leb (length rows) MOST_MEMBERS) (next (totals_rule rows 0 7) (λ _. pools_rule pools 0)) 4 layer.Ledger 0 long.1 in
    let rest = both (totals_rule rows 0 7) (pools_rule pools 0) few.1 in (
      leb-true (length rows) MOST_MEMBERS (and_parts (leb 1 (length rows)) (leb (length rows) MOST_MEMBERS) few.0).1,
      eqb-true cells (13 * length rows) long.0,
      pools_all pools 0 rest.1,
      λ k h. totals_all rows 0 7 rest.0 k (omega arith) (omega arith),
    )
