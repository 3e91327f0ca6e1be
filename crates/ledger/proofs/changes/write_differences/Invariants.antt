use Rattle.std.proofs.Common.{◌≡◌, take}
use Rattle.ledger.specs.Resettling.{differences}
use Rattle.ledger.proofs.changes.write_differences.Given as goal

-- the differences so far
abbrev pub invariant-loop-i : goal.invariant-loop-i
invariant-loop-i l = take l.i l.out ≡ take l.i (differences l.shares l.lines)
