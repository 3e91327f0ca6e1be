-- Rounding a quotient to whole cents.
use Rattle.std.specs.Prelude.{ℕ, zero, suc, ◌*◌, ◌≤◌, ℤ, pos, ◌+ℤ◌, ◌*ℤ◌, ◌≤ℤ◌, ◌<ℤ◌}
use borrow.Author.Differences.{up, down}
use Rattle.std.specs.Int.{int_div_euclid}

-- a ÷ b, down: toward minus infinity
abbrev pub round_down : ℤ → ℕ → ℤ
round_down a zero = pos 0
round_down a (suc b) = int_div_euclid a (pos (suc b))

-- (2a + b) ÷ 2b, down: halves go up
abbrev pub round_nearest : ℤ → ℕ → ℤ
round_nearest a b = round_down ((pos 2 *ℤ a) +ℤ pos b) (2 * b)

-- q is the largest whole number not above a ÷ b
abbrev pub Largest : ℤ → ℕ → ℤ → Type 0
Largest a b q = ((pos b *ℤ q) ≤ℤ a) × (a <ℤ (pos b *ℤ (q +ℤ pos 1)))

-- twice the distance from b × q to a is at most b, and a half goes up
abbrev pub Closest : ℤ → ℕ → ℤ → Type 0
Closest a b q = ((pos (2 * b) *ℤ q) ≤ℤ ((pos 2 *ℤ a) +ℤ pos b)) × (((pos 2 *ℤ a) +ℤ pos b) <ℤ (pos (2 * b) *ℤ (q +ℤ pos 1)))

-- d lies between 0 and a, both included
abbrev pub Inside : ℤ → ℤ → Type 0
Inside a d = (up d ≤ up a) × (down d ≤ down a)
