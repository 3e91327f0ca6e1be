-- What the tolerance of each share says of the shares of several members together.
use Rattle.std.proofs.Common.{◌≡◌, ℕ, zero, suc, ◌+◌, ◌*◌, ◌<◌, ◌≤◌, List, [], ◌∷◌, length, get_or, take, ℤ, pos, ◌+ℤ◌, ◌-ℤ◌, ◌*ℤ◌, nat_abs, sum, sym, subst, mul-le-mul, mul-le-mul_left, arith}
use borrow.Author.Differences.{ints}
use Rattle.std.proofs.lemmas.List.Sums.{sum_by-cons}
use Rattle.cents.specs.Cutting.{sum_z}
use Rattle.cents.proofs.Products.{mul_plus, mul_minus}
use Rattle.sharing.specs.Tolerance.{Near, NearTogether, slack, cent}
use Rattle.std.proofs.lemmas.Int.{unsigned_abs-mul}
use Rattle.std.proofs.Math.Nat.{le_of_mul-le-mul_left}
use Rattle.limits.specs.declared.TheConstants.{MOST_CENTS, MOST_SHARED, MOST_UNITS}

near_none : (k d : ℕ) (P : ℤ) (T : ℕ) → NearTogether k d P T 0 (pos 0)
near_none k d P T = omega (arith, ints)

triangle : (a b c d : ℤ) → nat_abs ((a +ℤ b) -ℤ (c +ℤ d)) ≤ nat_abs (a -ℤ c) + nat_abs (b -ℤ d)
triangle a b c d = omega (arith, ints)

-- one member more
near_more : (k d : ℕ) (P : ℤ) (T u U : ℕ) (s S : ℤ) → Near d P T u s → NearTogether k d P T U S → NearTogether (suc k) d P T (u + U) (s +ℤ S)
near_more k d P T u U s S h H =
    let t = triangle (pos T *ℤ s) (pos T *ℤ S) (P *ℤ pos u) (P *ℤ pos U) in
    let x = subst (λ (z : ℤ). nat_abs (z -ℤ ((P *ℤ pos u) +ℤ (P *ℤ pos U))) ≤ nat_abs ((pos T *ℤ s) -ℤ (P *ℤ pos u)) + nat_abs ((pos T *ℤ S) -ℤ (P *ℤ pos U))) (sym (mul_plus (pos T) s S)) t in
    let y = subst (λ (z : ℤ). nat_abs ((pos T *ℤ (s +ℤ S)) -ℤ z) ≤ nat_abs ((pos T *ℤ s) -ℤ (P *ℤ pos u)) + nat_abs ((pos T *ℤ S) -ℤ (P *ℤ pos U))) (sym (mul_plus P (pos u) (pos U))) x in
    omega arith

-- the first k members together
pub near_front : (d : ℕ) (P : ℤ) (T : ℕ) (us : List ℕ) (ss : List ℤ) → length ss ≡ length us → ((m : ℕ) → Near d P T (get_or us m 0) (get_or ss m (pos 0)))
    → (k : ℕ) → NearTogether k d P T (sum (take k us)) (sum_z (take k ss))
near_front d P T us ss e h zero = near_none 0 d P T
near_front d P T [] [] e h (suc k) = near_none (suc k) d P T
near_front d P T [] (s ∷ ss) e h (suc k) = absurd (omega arith)
near_front d P T (u ∷ us) [] e h (suc k) = absurd (omega arith)
near_front d P T (u ∷ us) (s ∷ ss) e h (suc k) =
    let i = near_front d P T us ss (omega arith) (λ m. h (suc m)) k in
    let n = near_more k d P T u (sum (take k us)) s (sum_z (take k ss)) (h 0) i in
    subst (λ (n : ℕ). NearTogether (suc k) d P T n (s +ℤ sum_z (take k ss))) (sym (sum_by-cons (λ x. x) u (take k us))) n

-- what k members bear is at most the largest pool, half a cent for each of the most units, and one cent for each member
pub near_small : (k d : ℕ) (P : ℤ) (T U : ℕ) (S : ℤ) → d ≤ 100 → nat_abs P ≤ MOST_CENTS → 0 < T → T ≤ MOST_UNITS → U ≤ T → NearTogether k d P T U S → nat_abs S ≤ MOST_SHARED + k
near_small k d P T U S hd hp h0 ht hu h =
    let a = unsigned_abs-mul (pos T) S in
    let b = unsigned_abs-mul P (pos U) in
    let c = mul-le-mul_left (nat_abs P) hu in
    let w : T * (cent * nat_abs S) ≤ T * (cent * nat_abs P + d * U + cent * k) = omega (arith, ints) in
    let l = le_of_mul-le-mul_left w h0 in
    let m : d * U ≤ 100 * MOST_UNITS = mul-le-mul {n₂ = 100} {m₂ = MOST_UNITS} hd (omega arith) in
    omega arith

-- all members together bear the pool, to within half a step for each unit and one cent for each member
pub near_whole : (k d : ℕ) (P : ℤ) (T : ℕ) (S : ℤ) → 0 < T → NearTogether k d P T T S → nat_abs (P -ℤ S) ≤ slack k d T
near_whole k d P T S h0 h =
    let m = mul_minus (pos T) P S in
    let a = unsigned_abs-mul (pos T) (P -ℤ S) in
    let w : T * (cent * nat_abs (P -ℤ S)) ≤ T * (d * T + cent * k) = omega (arith, ints) in
    let l = le_of_mul-le-mul_left w h0 in
    omega arith
