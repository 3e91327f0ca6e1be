use Rattle.std.proofs.Common.{◌≡◌, ◌*◌, ◌^◌, ◌≤◌, take, nat_abs}
use Rattle.cents.specs.Cutting.{sum_z}
use Rattle.cents.proofs.totals.sum_of.Given as goal

-- the sum so far
abbrev pub invariant-loop-amount : goal.invariant-loop-amount
invariant-loop-amount l = (l.sum ≡ sum_z (take l.amount-index l.amounts)) × (nat_abs l.sum ≤ (2 ^ 63) * l.amount-index)
