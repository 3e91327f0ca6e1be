-- Magnitudes of a product, and of a part of an amount.
use Rattle.std.proofs.Common.{◌≡◌, ℕ, ◌*◌, ◌≤◌, ℤ, pos, negsuc, ◌*ℤ◌, nat_abs, arith}
use Rattle.cents.specs.Rounding.{Inside}
use Rattle.std.proofs.lemmas.Int.{unsigned_abs-mul}

pub times_abs : (z : ℤ) (n : ℕ) → nat_abs (z *ℤ pos n) ≡ nat_abs z * n
times_abs z n = unsigned_abs-mul z (pos n)

pub inside_abs : (a d : ℤ) → Inside a d → nat_abs d ≤ nat_abs a
inside_abs (pos a) (pos d) i = i.0
inside_abs (pos a) (negsuc d) i = absurd (omega arith)
inside_abs (negsuc a) (pos d) i = omega arith
inside_abs (negsuc a) (negsuc d) i = i.1
