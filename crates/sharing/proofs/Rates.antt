-- A posted rate times a member's units fits 64 bits.
use Rattle.std.proofs.Common.{◌≡◌, ℕ, suc, ◌*◌, ◌<◌, ◌≤◌, true, List, get_or, ℤ, pos, negsuc, ◌+ℤ◌, ◌*ℤ◌, nat_abs, sum, sym, subst, mul-le-mul_left, arith}
use borrow.Author.Differences.{ints}
use Rattle.std.proofs.lemmas.Bool.{cond-true}
use Rattle.cents.specs.Rounding.{round_nearest}
use Rattle.cents.proofs.Quotients.{down_left}
use Rattle.sharing.specs.Domain.{in_domain, shareable}
use Rattle.sharing.specs.Posted.{posted_rate}
use Rattle.sharing.specs.LawsOfRules.{in_domain_lem}
use Rattle.sharing.proofs.Members.{unit_le}
use Rattle.limits.specs.declared.TheConstants.{MOST_CENTS, MOST_UNITS}

-- a rate times units, of at most all units, is not far above a hundred times the pool
rate_small : (P q : ℤ) (T u r : ℕ) → nat_abs P ≤ MOST_CENTS → T ≤ MOST_UNITS → u ≤ T → r < 2 * T
    → (pos 2 *ℤ (pos 100 *ℤ P)) +ℤ pos T ≡ (pos (2 * T) *ℤ q) +ℤ pos r → nat_abs q * u ≤ 1000000000000
rate_small P (pos q) T u r hp ht hu hr e = omega (arith, ints, mul-le-mul_left q hu)
rate_small P (negsuc q) T u r hp ht hu hr e = omega (arith, ints, mul-le-mul_left (suc q) hu)

pub rate_fits : (p : ℤ) (us : List ℕ) → shareable p us ≡ true → (m : ℕ) → nat_abs (posted_rate p (sum us)) * get_or us m 0 ≤ 1000000000000
rate_fits p us e m =
    let d = in_domain_lem p (sum us) e in
    let rate = round_nearest (pos 100 *ℤ p) (sum us) in
    let l = down_left ((pos 2 *ℤ (pos 100 *ℤ p)) +ℤ pos (sum us)) (2 * sum us) (omega (arith, d.1)) in
    let s = rate_small p rate (sum us) (get_or us m 0) l.0 d.0 d.2 (unit_le us m) l.1 l.2 in
    subst (λ (z : ℤ). nat_abs z * get_or us m 0 ≤ 1000000000000) (sym (cond-true (in_domain p (sum us)) rate (pos 0) e)) s
