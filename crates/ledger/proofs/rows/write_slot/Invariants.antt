use Rattle.std.proofs.Common.{◌≡◌, ◌*◌, ◌++◌, length, drop}
use Rattle.ledger.proofs.ByComponent.{slot_rows}
use Rattle.ledger.proofs.rows.write_slot.Given as goal

-- the rows so far, followed by the rest of the slot as it was
abbrev pub invariant-loop-place : goal.invariant-loop-place
invariant-loop-place l = l.slot ≡ slot_rows l.units l.cells l.place ++ drop (l.place * length l.units) l.initial.slot
