-- What refuses a month's bill.
use Rattle.std.specs.Prelude.{ℕ, zero, suc, ◌+◌, ◌*◌, cond, List, [], ◌∷◌, length, ℤ, sum, ◌==◌, nat_le, unsigned_abs}
use Rattle.refusal.specs.Answers.{Answer, done, refused, next}
use Rattle.refusal.specs.declared.Layer.TheVariants as layer
use Rattle.statement.specs.Columns.{column}
use Rattle.limits.specs.Ranges.{count_lawful}
use Rattle.limits.specs.declared.TheConstants.{MOST_CENTS, MOST_UNITS}

-- 8 at the lowest kind, of the n kinds from place k on, whose total is above 2,000,000,000
abbrev pub totals_rule : List (List ℕ) → ℕ → ℕ → Answer (Unit {0})
totals_rule rows k zero = done tt
totals_rule rows k (suc n) = cond (nat_le (sum (column rows k)) MOST_UNITS) (totals_rule rows (k + 1) n) (refused 8 layer.Ledger (k + 1))

-- 9 at the lowest component, from place c on, whose pool lies beyond ±4,000,000,000
abbrev pub pools_rule : List ℤ → ℕ → Answer (Unit {0})
pools_rule [] c = done tt
pools_rule (p ∷ pools) c = cond (nat_le (unsigned_abs p) MOST_CENTS) (pools_rule pools (c + 1)) (refused 9 layer.Ledger (c + 1))

-- 11 where the statement has not 13 cells a member, 4 where there are no members or more than 200, then 8, then 9
abbrev pub charge_rule : List ℤ → List (List ℕ) → ℕ → Answer (Unit {0})
charge_rule pools rows cells =
    cond (cells == 13 * length rows)
    (cond (count_lawful (length rows)) (next (totals_rule rows 0 7) (λ _. pools_rule pools 0)) (refused 4 layer.Ledger 0))
    (refused 11 layer.Ledger 0)
