use Rattle.std.proofs.Common.{length, take}
use Rattle.std.specs.Fmt.{HasWritten, IsPlainFormatter}
use Rattle.journal_run.specs.Printed.{difference_lines}
use Rattle.journal_run.proofs.printing.ResettledDisplay.fmt.Given as goal

-- the lines so far
abbrev pub invariant-loop-member : goal.invariant-loop-member
invariant-loop-member g l =
    IsPlainFormatter l.initial.f → HasWritten g.W.Write.write_str_gives l.initial.f (difference_lines (take (length l.yielded) l.self.members.now) (take (length l.yielded) l.self.cells.now)) l.f
