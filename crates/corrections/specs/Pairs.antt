-- Corrected pairs of kind and member, as a list.
use Rattle.std.specs.Prelude.{ℕ, Bool, cond, ◌||◌, List, [], ◌∷◌, ◌++◌, nat_lt}
use Rattle.std.specs.Set.{distinct_count, is_member}
use Rattle.book.specs.Correcting.{same_pair}
use Rattle.limits.specs.declared.TheConstants.{MOST_PAIRS}

-- whether a pair is among them
abbrev pub among : List (ℕ × ℕ) → ℕ × ℕ → Bool
among pairs pair = is_member same_pair pairs pair

-- the pairs after one of them is corrected: the same where it was among them, else with that pair more
abbrev pub pairs_with : List (ℕ × ℕ) → ℕ × ℕ → List (ℕ × ℕ)
pairs_with pairs pair = cond (among pairs pair) pairs (pairs ++ pair ∷ [])

-- a pair that was corrected before is taken, and any other while fewer than 64 pairs are corrected,
-- each counted once
abbrev pub takes_pair : List (ℕ × ℕ) → ℕ × ℕ → Bool
takes_pair pairs pair = among pairs pair || nat_lt (distinct_count same_pair pairs) MOST_PAIRS
