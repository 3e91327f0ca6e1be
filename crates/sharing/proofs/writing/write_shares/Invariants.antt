use Rattle.std.proofs.Common.{ℕ, ◌<◌, get_or, pos}
use Rattle.sharing.proofs.writing.write_shares.Given as goal

-- the first i members have their shares
abbrev pub invariant-loop-i : goal.invariant-loop-i
invariant-loop-i g l = (m : ℕ) → m < l.i → goal.F-post g l.share (get_or l.units m 0) (get_or l.out m (pos 0))
