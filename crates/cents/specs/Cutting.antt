-- Cutting an amount over weights.
use Rattle.std.specs.Prelude.{ℕ, ◌+◌, List, [], ◌∷◌, ℤ, pos, ◌+ℤ◌, ◌-ℤ◌, ◌*ℤ◌, min, sum}
use Rattle.cents.specs.Rounding.{round_down}

abbrev pub sum_z : List ℤ → ℤ
sum_z [] = pos 0
sum_z (z ∷ zs) = z +ℤ sum_z zs

-- what the weights up to a running sum take of the amount
abbrev pub taken : ℤ → ℕ → ℕ → ℤ
taken amount whole run = round_down (amount *ℤ pos run) whole

-- a part is what the weights up to its own take, less what those before it take
abbrev pub parts_from : ℤ → ℕ → ℕ → List ℕ → List ℤ
parts_from amount whole run [] = []
parts_from amount whole run (w ∷ ws) = (taken amount whole (run + w) -ℤ taken amount whole run) ∷ parts_from amount whole (run + w) ws

-- the same, where a running sum above the whole counts as the whole
abbrev pub parts_up_to : ℤ → ℕ → ℕ → List ℕ → List ℤ
parts_up_to amount whole run [] = []
parts_up_to amount whole run (w ∷ ws) =
    (taken amount whole (min (run + w) whole) -ℤ taken amount whole (min run whole)) ∷ parts_up_to amount whole (run + w) ws

-- the parts of an amount, by weights whose sum is the whole
abbrev pub cut : ℤ → List ℕ → List ℤ
cut amount weights = parts_from amount (sum weights) 0 weights
