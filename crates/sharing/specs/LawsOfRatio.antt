-- No definitions: what the laws of the rule Ratio need, and that its shares are the whole pool.
use Rattle.std.specs.Prelude.{◌≡◌, ℕ, zero, suc, ◌+◌, ◌<◌, true, List, [], ◌∷◌, ℤ, pos, ◌+ℤ◌, ◌-ℤ◌, ◌*ℤ◌, sum, slice_index, slice_index_or, refl}
use Rattle.std.proofs.Common.{arith, sym, ap, ◌∙◌, subst}
use Rattle.std.proofs.lemmas.Int.{ints}
use Rattle.cents.specs.Cutting.{taken, parts_from, cut, sum_z}
use Rattle.cents.proofs.Parts.{part_left, cut_sum}
use Rattle.sharing.specs.Domain.{shareable}
use Rattle.sharing.specs.Tolerance.{Near}
use Rattle.sharing.specs.Ratio.{ratio}
use Rattle.sharing.specs.LawsOfRules.{in_domain_lem, shared_is}

-- a part is what its units take after some others
part_at : (p : ℤ) (T x : ℕ) (us : List ℕ) (m : ℕ)
    → (y : ℕ) × (slice_index_or (parts_from p T x us) m (pos 0) ≡ taken p T (y + slice_index us m) -ℤ taken p T y)
part_at p T x [] m = (x, omega (arith, ints, ap (taken p T) {x = x + 0} {y = x} (omega arith)))
part_at p T x (u ∷ us) zero = (x, refl)
part_at p T x (u ∷ us) (suc m) = part_at p T (x + u) us m

left_near : (p d : ℤ) (T u r s : ℕ) → r < T → s < T → (pos T *ℤ d) +ℤ pos s ≡ (p *ℤ pos u) +ℤ pos r → Near 0 p T u d
left_near p d T u r s hr hs e = omega (arith, ints)

pub part_near : (p : ℤ) (T x : ℕ) (us : List ℕ) (m : ℕ) → 0 < T
    → Near 0 p T (slice_index us m) (slice_index_or (parts_from p T x us) m (pos 0))
part_near p T x us m h =
    let a = part_at p T x us m in
    let u = slice_index us m in
    let l = part_left p T a.0 u h in
    subst (λ (z : ℤ). Near 0 p T u z) (sym a.1) (left_near p (taken p T (a.0 + u) -ℤ taken p T a.0) T u l.0 l.1 l.2 l.3 l.4)

pub part_unused : (p : ℤ) (T x : ℕ) (us : List ℕ) (m : ℕ) → slice_index us m ≡ 0 → slice_index_or (parts_from p T x us) m (pos 0) ≡ pos 0
part_unused p T x us m e =
    let a = part_at p T x us m in
    let f = ap (taken p T) {x = a.0 + slice_index us m} {y = a.0} (omega arith) in
    omega (arith, ints, a.1, f)

-- the shares by ratio are the whole pool
pub ratio_whole : (p : ℤ) (us : List ℕ) → shareable p us ≡ true → sum_z (ratio p us) ≡ p
ratio_whole p us e = ap sum_z (shared_is p us (cut p us) e) ∙ cut_sum p us (in_domain_lem p (sum us) e).1
