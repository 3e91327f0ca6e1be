use Rattle.std.proofs.Common.{◌≡◌, ◌-◌, ◌^◌, min, ◌++◌, take, drop, sum}
use Rattle.cents.specs.Cutting.{taken, parts_up_to}
use Rattle.cents.proofs.cutting.split.Given as goal

-- the parts so far, followed by those of the weights that are left, are all parts
abbrev pub invariant-loop-i : goal.invariant-loop-i
invariant-loop-i l =
    (l.run ≡ min (sum (take l.i l.weights)) (2 ^ 64 - 1)) × (l.before ≡ taken l.amount l.whole (min l.run l.whole))
    × (take l.i l.out ++ parts_up_to l.amount l.whole (sum (take l.i l.weights)) (drop l.i l.weights) ≡ parts_up_to l.amount l.whole 0 l.weights)
