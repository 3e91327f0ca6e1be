use Rattle.std.proofs.Common.{◌≡◌, ◌+◌, ◌-◌, take}
use Rattle.month_text.specs.Members.{members_at}
use Rattle.month_text.proofs.Rows.{ahead}
use Rattle.month_text.proofs.members.member_lines.Given as goal

-- the members so far, and then what the rest of the text says
abbrev pub invariant-loop-i : goal.invariant-loop-i
invariant-loop-i l =
    members_at l.i-end 9 0 l.s ≡ ahead (take l.i l.places) (members_at (l.i-end - l.i) (9 + l.i) l.last l.rest)
