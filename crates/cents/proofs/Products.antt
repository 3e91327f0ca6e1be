-- A product with a sum, and with a difference, of signed numbers.
use Rattle.std.proofs.Common.{◌≡◌, ℕ, ◌*◌, ℤ, ◌+ℤ◌, ◌-ℤ◌, ◌*ℤ◌, neg_ℤ, ap, arith}
use borrow.Author.Differences.{ints, up, down, sum_is_lem, neg_is}

pub mul_plus : (a b c : ℤ) → a *ℤ (b +ℤ c) ≡ (a *ℤ b) +ℤ (a *ℤ c)
mul_plus a b c = omega (arith, ints, ap (λ (n : ℕ). up a * n) (sum_is_lem b c), ap (λ (n : ℕ). down a * n) (sum_is_lem b c))

pub mul_minus : (a b c : ℤ) → a *ℤ (b -ℤ c) ≡ (a *ℤ b) -ℤ (a *ℤ c)
mul_minus a b c =
    let n = neg_is c in
    omega (arith, ints, mul_plus a b (neg_ℤ c), ap (λ (n : ℕ). up a * n) n.0, ap (λ (n : ℕ). up a * n) n.1, ap (λ (n : ℕ). down a * n) n.0, ap (λ (n : ℕ). down a * n) n.1)
