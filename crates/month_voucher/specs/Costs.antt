-- A month's costs on one voucher.
use Rattle.std.specs.Prelude.{ℕ, ◌+◌, List, [], ◌∷◌, ℤ}
use Rattle.refusal.specs.Answers.{Answer, done, next}
use Rattle.voucher.specs.Calls.{open_rule, line_rule, balance_rule}

-- a line for each amount, from a head on
abbrev pub lines_rule : List ℤ → ℕ → List ℤ → Answer (List ℤ)
lines_rule amounts head [] = done amounts
lines_rule amounts head (c ∷ cost) = next (line_rule amounts head c) (λ added. lines_rule added (head + 1) cost)

-- six lines, then balance
abbrev pub fill_rule : ℤ → List ℤ → List ℤ → Answer (List ℤ)
fill_rule control amounts cost = next (lines_rule amounts 1 cost) (λ filled. next (balance_rule control filled) (λ _. done filled))

-- open, six lines, balance
abbrev pub cost_rule : ℤ → List ℤ → Answer (List ℤ)
cost_rule control cost = next (open_rule control) (λ opened. fill_rule control opened.1 cost)
