use Rattle.std.proofs.Common.{◌≡◌, ◌*◌, ◌^◌, ◌≤◌, take, nat_abs, string_bytes}
use Rattle.journal_run.specs.Meanings.{entries_at}
use Rattle.journal_run.proofs.Progress.{outcomes_text, outcomes_booked, outcomes_billed}
use Rattle.journal_run.proofs.text.ran_text.Given as goal

-- the text so far, and the sums so far; no sum is larger than its cells allow
abbrev pub invariant-loop-i : goal.invariant-loop-i
invariant-loop-i l =
    (string_bytes l.text ≡ outcomes_text l.ran.width (take l.i (entries_at l.entries)) (take l.i l.ran.outcomes.items) l.ran.statements.items)
    × (l.sums.booked ≡ outcomes_booked (take l.i (entries_at l.entries)) (take l.i l.ran.outcomes.items))
    × (l.sums.billed ≡ outcomes_billed l.ran.width (take l.i (entries_at l.entries)) (take l.i l.ran.outcomes.items) l.ran.statements.items)
    × (nat_abs l.sums.booked ≤ (2 ^ 63) * (l.i * l.ran.width))
    × (nat_abs l.sums.billed ≤ (2 ^ 63) * (l.i * l.ran.width))
