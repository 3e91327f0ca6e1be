use Rattle.std.proofs.Common.{take}
use Rattle.std.specs.List.{flat_map}
use Rattle.std.specs.Fmt.{HasWritten, IsPlainFormatter}
use Rattle.charges_text.specs.Printed.{charge_part}
use Rattle.charges_text.proofs.lines.MemberChargeDisplay.fmt.Given as goal

-- the charges so far
abbrev pub invariant-loop-charge : goal.invariant-loop-charge
invariant-loop-charge g l =
    IsPlainFormatter l.initial.f → HasWritten g.W.Write.write_str_gives l.initial.f (flat_map charge_part (take l.charge-index l.charge-items)) l.f
