use Rattle.std.proofs.Common.{◌≡◌, List, ℕ, length, take}
use Rattle.ledger.specs.Files.{GivesUnits, lines_of}
use Rattle.ledger.proofs.rows.write_lines.Given as goal

-- the lines so far
abbrev pub invariant-loop-i : goal.invariant-loop-i
invariant-loop-i g l = (us : List ℕ) → length us ≡ length l.cents → GivesUnits (goal.F-post g l.units) us → take l.i l.lines ≡ take l.i (lines_of us l.cents)
