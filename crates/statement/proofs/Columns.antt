-- The test of totals, step by step.
use Rattle.std.proofs.Common.{◌≡◌, ℕ, suc, ◌+◌, ◌-◌, ◌<◌, ◌≤◌, cond, leb, List, sum, sym, ap, ◌∙◌, arith}
use Rattle.std.proofs.lemmas.Bool.{cond-true, cond-false, le-leb, lt-leb}
use Rattle.refusal.specs.Answers.{Answer, refused}
use Rattle.refusal.specs.declared.Layer.TheVariants as layer
use Rattle.statement.specs.Columns.{column}
use Rattle.statement.specs.Checks.{totals_rule}
use Rattle.limits.specs.declared.TheConstants.{MOST_UNITS}

module _ (rows : List (List ℕ)) (k : ℕ) (all : Answer (Unit {0})) (below : k < 7) (inv : totals_rule rows k (7 - k) ≡ all) where
  step : cond (leb (sum (column rows k)) MOST_UNITS) (totals_rule rows (k + 1) (7 - (k + 1))) (refused 8 layer.Ledger (k + 1)) ≡ all
  step = sym (ap (totals_rule rows k) {x = 7 - k} {y = suc (7 - (k + 1))} (omega arith)) ∙ inv

  pub totals_stop : MOST_UNITS < sum (column rows k) → refused 8 layer.Ledger (k + 1) ≡ all
  totals_stop h = sym (cond-false _ (totals_rule rows (k + 1) (7 - (k + 1))) (refused 8 layer.Ledger (k + 1)) (lt-leb (sum (column rows k)) MOST_UNITS h)) ∙ step

  pub totals_more : sum (column rows k) ≤ MOST_UNITS → totals_rule rows (k + 1) (7 - (k + 1)) ≡ all
  totals_more h = sym (cond-true _ (totals_rule rows (k + 1) (7 - (k + 1))) (refused 8 layer.Ledger (k + 1)) (le-leb (sum (column rows k)) MOST_UNITS h)) ∙ step
