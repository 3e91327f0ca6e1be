-- The six heads of cost, and what a booking makes of them.
use Rattle.std.specs.Prelude.{ℕ, ◌≤◌, Bool, cond, List, [], ◌∷◌, ℤ, pos, ◌+ℤ◌, nat_le, slice_index_or, unsigned_abs}
use Rattle.cents.specs.Passes.{all_pass}
use Rattle.refusal.specs.Answers.{Answer, done, refused}
use Rattle.refusal.specs.declared.Layer.TheVariants as layer
use Rattle.limits.specs.declared.TheConstants.{MOST_CENTS}

abbrev pub at : List ℤ → ℕ → ℤ
at zs i = slice_index_or zs i (pos 0)

-- every amount lies within ±4,000,000,000
abbrev pub AmountsInRange : List ℤ → Type 0
AmountsInRange amounts = (k : ℕ) → unsigned_abs (at amounts k) ≤ MOST_CENTS

abbrev pub within : ℤ → Bool
within z = nat_le (unsigned_abs z) MOST_CENTS

-- each head with the amount booked on it
abbrev pub sums : List ℤ → List ℤ → List ℤ
sums [] amounts = []
sums (h ∷ heads) [] = []
sums (h ∷ heads) (a ∷ amounts) = (h +ℤ a) ∷ sums heads amounts

-- a booking is refused by 14 where a head would lie beyond ±4,000,000,000
abbrev pub book_rule : List ℤ → List ℤ → Answer (List ℤ)
book_rule heads amounts = cond (all_pass within (sums heads amounts)) (done (sums heads amounts)) (refused 14 layer.Ledger 0)
