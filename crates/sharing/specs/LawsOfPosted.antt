-- No definitions: what the laws of the rule Posted need.
use Rattle.std.specs.Prelude.{◌≡◌, ℕ, ◌+◌, ◌*◌, ◌<◌, ◌≤◌, true, List, map, ℤ, pos, ◌+ℤ◌, ◌*ℤ◌, sum, slice_index}
use Rattle.std.proofs.Common.{mul-le-mul_left, arith, sym, ap, subst}
use borrow.Author.Differences.{ints, up, down}
use Rattle.std.proofs.lemmas.Bool.{cond-true}
use Rattle.cents.specs.Rounding.{round_nearest}
use Rattle.cents.proofs.Quotients.{down_left, nearest_none}
use Rattle.sharing.specs.Domain.{in_domain, shareable}
use Rattle.sharing.specs.Tolerance.{Near, EachNear}
use Rattle.sharing.specs.Posted.{posted_rate, posted_share}
use Rattle.sharing.specs.LawsOfRules.{in_domain_lem, map_at}

-- who used nothing bears nothing, at any rate
pub posted_none : (rate : ℤ) → posted_share rate 0 ≡ pos 0
posted_none rate = nearest_none 100 rate (omega arith)

-- the two remainders, over one total; each number is a difference of two
over_total : (p p' q q' s s' T u r t : ℕ) → r < 2 * T → t < 200 → 200 * p + T + 2 * (T * q') ≡ 200 * p' + 2 * (T * q) + r
    → 2 * (u * q) + 100 + 200 * s' ≡ 2 * (u * q') + 200 * s + t
    → (200 * (T * s) + 200 * (u * p') ≤ 200 * (T * s') + 200 * (u * p) + T * u + 200 * T)
    × (200 * (T * s') + 200 * (u * p) ≤ 200 * (T * s) + 200 * (u * p') + T * u + 200 * T)
over_total p p' q q' s s' T u r t hr ht e f =
    let a : u * r ≤ u * (2 * T) = mul-le-mul_left u (omega arith) in
    let b : T * t ≤ T * 200 = mul-le-mul_left T (omega arith) in
    let m = ap (λ (x : ℕ). u * x) e in
    let n = ap (λ (x : ℕ). T * x) f in
    (omega arith, omega arith)

near_from : (P s : ℤ) (T u : ℕ) → 200 * (T * up s) + 200 * (u * down P) ≤ 200 * (T * down s) + 200 * (u * up P) + T * u + 200 * T
    → 200 * (T * down s) + 200 * (u * up P) ≤ 200 * (T * up s) + 200 * (u * down P) + T * u + 200 * T → Near 1 P T u s
near_from P s T u l g = omega (arith, ints)

two_roundings : (P q s : ℤ) (T u r t : ℕ) → r < 2 * T → t < 200 → (pos 2 *ℤ (pos 100 *ℤ P)) +ℤ pos T ≡ (pos (2 * T) *ℤ q) +ℤ pos r
    → (pos 2 *ℤ (q *ℤ pos u)) +ℤ pos 100 ≡ (pos 200 *ℤ s) +ℤ pos t → Near 1 P T u s
two_roundings P q s T u r t hr ht e f =
    let o = over_total (up P) (down P) (up q) (down q) (up s) (down s) T u r t hr ht (omega (arith, ints)) (omega (arith, ints)) in
    near_from P s T u o.0 o.1

posted_near : (p : ℤ) (T u : ℕ) → in_domain p T ≡ true → Near 1 p T u (posted_share (posted_rate p T) u)
posted_near p T u e =
    let d = in_domain_lem p T e in
    let rate = round_nearest (pos 100 *ℤ p) T in
    let l = down_left ((pos 2 *ℤ (pos 100 *ℤ p)) +ℤ pos T) (2 * T) (omega (arith, d.1)) in
    let g = down_left ((pos 2 *ℤ (rate *ℤ pos u)) +ℤ pos 100) 200 (omega arith) in
    let n = two_roundings p rate (posted_share rate u) T u l.0 g.0 l.1 g.1 l.2 g.2 in
    subst (λ (z : ℤ). Near 1 p T u (posted_share z u)) (sym (cond-true (in_domain p T) rate (pos 0) e)) n

-- the share of each member, among all
pub each_near : (p : ℤ) (us : List ℕ) → shareable p us ≡ true → EachNear 1 p us (map (posted_share (posted_rate p (sum us))) us)
each_near p us e m =
    let f = map_at (posted_share (posted_rate p (sum us))) (posted_none (posted_rate p (sum us))) us m in
    subst (Near 1 p (sum us) (slice_index us m)) (sym f) (posted_near p (sum us) (slice_index us m) e)
