-- No definitions: what the law `units_in_range` of a book with corrections needs.
use Rattle.std.specs.Prelude.{◌≡◌, ℕ, ◌≤◌, true, false, List, [], ◌∷◌}
use Rattle.std.specs.Option.{unwrap_or}
use Rattle.std.proofs.Common.{⊎_elim}
use Rattle.std.proofs.lemmas.Bool.{cases_Bool}
use Rattle.std.proofs.lemmas.List.Elements.{All-head, All-tail, All-take}
use Rattle.corrections.specs.declared.fixes.Fix.{Fix}
use Rattle.corrections.specs.declared.fixes.Fixes.{Fixes}
use Rattle.corrections.specs.Fixes.{FixesInRange, is_for, seek}
use Rattle.corrections.specs.Kept.{kept, units_over}
use Rattle.limits.specs.declared.TheConstants.{MOST_UNITS}

-- the units that a pair was corrected to, or else those of the book below
sought_small : (fixes : List Fix) (kind member units : ℕ) → FixesInRange fixes → units ≤ MOST_UNITS
    → unwrap_or (seek fixes kind member) units ≤ MOST_UNITS
sought_small [] kind member units s h = h
sought_small (f ∷ fixes) kind member units s h =
    ⊎_elim
    (λ (t : is_for kind member f ≡ true). rw t (All-head (λ g. g.units ≤ MOST_UNITS) f fixes s))
    (λ (t : is_for kind member f ≡ false). rw t (sought_small fixes kind member units (All-tail (λ g. g.units ≤ MOST_UNITS) f fixes s) h))
    (cases_Bool (is_for kind member f))

pub units_small : (fixes : Fixes) (units : ℕ → ℕ → ℕ) (kind member : ℕ) → units kind member ≤ MOST_UNITS
    → units_over fixes units kind member ≤ MOST_UNITS
units_small fixes units kind member h =
    let kept_small = All-take (λ g. g.units ≤ MOST_UNITS) fixes.used fixes.list fixes.small in
    sought_small (kept fixes) kind member (units kind member) kept_small h
