-- Corrected pairs with their units, as a list.
use Rattle.std.specs.Prelude.{◌≡◌, ℕ, ◌≤◌, Bool, cond, List, map, Some, Option}
use Rattle.std.specs.List.{All, IsDistinct, find}
use Rattle.std.specs.Option.{option_map}
use Rattle.book.specs.Correcting.{same_pair}
use Rattle.corrections.specs.declared.fixes.Fix.{Fix}
use Rattle.limits.specs.declared.TheConstants.{MOST_UNITS}

-- no units are above 2,000,000,000
abbrev pub FixesInRange : List Fix → Type 0
FixesInRange fixes = All (λ f. f.units ≤ MOST_UNITS) fixes

abbrev pub pair_of : Fix → ℕ × ℕ
pair_of f = (f.pair.kind, f.pair.member)

-- no pair is there twice
abbrev pub Distinct : List Fix → Type 0
Distinct fixes = IsDistinct same_pair (map pair_of fixes)

abbrev pub is_for : ℕ → ℕ → Fix → Bool
is_for kind member f = same_pair (kind, member) (pair_of f)

-- the units that a pair was corrected to
abbrev pub seek : List Fix → ℕ → ℕ → Option ℕ
seek fixes kind member = option_map (λ f. f.units) (find (is_for kind member) fixes)

-- the fixes before a pair's units are kept, and after it: that pair has them, and every other is as it was
abbrev pub Keeps : List Fix → List Fix → ℕ × ℕ → ℕ → Type 0
Keeps before after pair units = (k m : ℕ) → seek after k m ≡ cond (same_pair (k, m) pair) (Some units) (seek before k m)
