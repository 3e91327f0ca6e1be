-- A pool times a member's units fits 64 bits.
use Rattle.std.proofs.Common.{◌≡◌, ℕ, ◌*◌, ◌≤◌, true, List, get_or, ℤ, nat_abs, sum, mul-le-mul, arith}
use Rattle.sharing.specs.Domain.{shareable}
use Rattle.sharing.specs.LawsOfRules.{in_domain_lem}
use Rattle.sharing.proofs.Members.{unit_le}
use Rattle.limits.specs.declared.TheConstants.{MOST_CENTS, MOST_UNITS}

pub product_small : (p : ℤ) (us : List ℕ) → shareable p us ≡ true → (m : ℕ) → nat_abs p * get_or us m 0 ≤ MOST_CENTS * MOST_UNITS
product_small p us e m =
    let d = in_domain_lem p (sum us) e in
    mul-le-mul {n₂ = MOST_CENTS} {m₂ = MOST_UNITS} d.0 (omega (arith, d.2, unit_le us m))
