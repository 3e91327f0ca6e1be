-- A line that was taken.
use Rattle.std.proofs.Common.{ℕ, zero, suc, ◌≤◌, List, [], ◌∷◌, set, ℤ, nat_abs}
use Rattle.tariff.specs.Heads.{AmountsInRange}
use Rattle.limits.specs.declared.TheConstants.{MOST_CENTS}

pub small_set : (amounts : List ℤ) (i : ℕ) (z : ℤ) → nat_abs z ≤ MOST_CENTS → AmountsInRange amounts → AmountsInRange (set amounts i z)
small_set [] i z h small k = small k
small_set (a ∷ amounts) zero z h small zero = h
small_set (a ∷ amounts) zero z h small (suc k) = small (suc k)
small_set (a ∷ amounts) (suc i) z h small zero = small 0
small_set (a ∷ amounts) (suc i) z h small (suc k) = small_set amounts i z h (λ j. small (suc j)) k
