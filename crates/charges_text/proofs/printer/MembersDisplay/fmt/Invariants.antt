use Rattle.std.proofs.Common.{take}
use Rattle.std.specs.List.{flat_map}
use Rattle.std.specs.Fmt.{HasWritten, IsPlainFormatter}
use Rattle.charges_text.specs.Printed.{member_line}
use Rattle.charges_text.proofs.printer.MembersDisplay.fmt.Given as goal

-- the lines so far
abbrev pub invariant-loop-member : goal.invariant-loop-member
invariant-loop-member g l =
    IsPlainFormatter l.initial.f → HasWritten g.W.Write.write_str_gives l.initial.f (flat_map member_line (take l.member-index l.member-items)) l.f
