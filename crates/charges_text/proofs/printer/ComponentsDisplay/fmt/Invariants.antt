use Rattle.std.proofs.Common.{take}
use Rattle.std.specs.Fmt.{HasWritten, IsPlainFormatter}
use Rattle.charges_text.specs.Printed.{component_lines}
use Rattle.charges_text.proofs.printer.ComponentsDisplay.fmt.Given as goal

-- the lines so far
abbrev pub invariant-loop-i : goal.invariant-loop-i
invariant-loop-i g l =
    IsPlainFormatter l.initial.f → HasWritten g.W.Write.write_str_gives l.initial.f (component_lines 1 (take l.i l.charge-items)) l.f
