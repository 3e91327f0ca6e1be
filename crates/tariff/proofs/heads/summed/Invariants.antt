use Rattle.std.proofs.Common.{◌≡◌, ℕ, ◌≤◌, true, length, get_or, take, pos}
use Rattle.cents.specs.Passes.{all_pass}
use Rattle.tariff.specs.Heads.{within, sums}
use Rattle.tariff.proofs.heads.summed.Given as goal

-- the sums so far, each in range, and then the heads that are left
abbrev pub invariant-loop-i : goal.invariant-loop-i
invariant-loop-i l = record {
  long : length l.heads ≡ 6;
  left : (k : ℕ) → l.i ≤ k → get_or l.heads k (pos 0) ≡ get_or l.fn.heads k (pos 0);
  summed : take l.i l.heads ≡ take l.i (sums l.fn.heads l.fn.amounts);
  within : all_pass within (take l.i (sums l.fn.heads l.fn.amounts)) ≡ true;
}
