-- The fixes that are in use: those of the pairs that were corrected, in the order of their first correction.
use Rattle.std.specs.Prelude.{ℕ, List, map, take}
use Rattle.std.specs.Option.{unwrap_or}
use Rattle.corrections.specs.declared.fixes.Fix.{Fix}
use Rattle.corrections.specs.declared.fixes.Fixes.{Fixes}
use Rattle.corrections.specs.Fixes.{pair_of, seek}

abbrev pub kept : Fixes → List Fix
kept fixes = take fixes.used fixes.list

-- the pairs that were corrected, each once
abbrev pub pairs : Fixes → List (ℕ × ℕ)
pairs fixes = map pair_of (kept fixes)

-- a pair's units: as corrected, or else as the book below has them
abbrev pub units_over : Fixes → (ℕ → ℕ → ℕ) → ℕ → ℕ → ℕ
units_over fixes units kind member = unwrap_or (seek (kept fixes) kind member) (units kind member)
