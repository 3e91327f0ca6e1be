-- No definitions: what the laws of the rule Exact need.
use Rattle.std.specs.Prelude.{◌≡◌, ℕ, zero, suc, ◌*◌, ◌<◌, true, List, map, ℤ, pos, ◌+ℤ◌, ◌*ℤ◌, sum, slice_index, refl}
use Rattle.std.proofs.Common.{arith, sym, subst}
use Rattle.std.proofs.lemmas.Int.{ints}
use Rattle.cents.proofs.Quotients.{down_left, nearest_none}
use Rattle.sharing.specs.Domain.{shareable}
use Rattle.sharing.specs.Tolerance.{Near, EachNear}
use Rattle.sharing.specs.LawsOfRules.{in_domain_lem, map_at}
use Rattle.rule_cases.specs.Exact.{exact_share}

-- who used nothing bears nothing, also where the total is 0
pub exact_none : (p : ℤ) (T : ℕ) → exact_share p T 0 ≡ pos 0
exact_none p zero = refl
exact_none p (suc T) = nearest_none (suc T) p (omega arith)

one_rounding : (P s : ℤ) (T u r : ℕ) → r < 2 * T → (pos 2 *ℤ (P *ℤ pos u)) +ℤ pos T ≡ (pos (2 * T) *ℤ s) +ℤ pos r → Near 0 P T u s
one_rounding P s T u r h e = omega (arith, ints)

exact_near : (p : ℤ) (T u : ℕ) → 0 < T → Near 0 p T u (exact_share p T u)
exact_near p T u h =
    let l = down_left ((pos 2 *ℤ (p *ℤ pos u)) +ℤ pos T) (2 * T) (omega arith) in
    one_rounding p (exact_share p T u) T u l.0 l.1 l.2

-- the share of each member, among all
pub each_exact : (p : ℤ) (us : List ℕ) → shareable p us ≡ true → EachNear 0 p us (map (exact_share p (sum us)) us)
each_exact p us e m =
    let n = exact_near p (sum us) (slice_index us m) (in_domain_lem p (sum us) e).1 in
    subst (Near 0 p (sum us) (slice_index us m)) (sym (map_at (exact_share p (sum us)) (exact_none p (sum us)) us m)) n
