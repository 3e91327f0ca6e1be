use Rattle.std.proofs.Common.{length}
use Rattle.journal_text.proofs.Months.{Left}
use Rattle.journal_text.proofs.pieces.month_length.Given as goal

abbrev pub invariant-loop-rest : goal.invariant-loop-rest
invariant-loop-rest l = Left l.text l.length l.rest

abbrev pub decreases-loop-rest : goal.decreases-loop-rest
decreases-loop-rest l = length l.rest
