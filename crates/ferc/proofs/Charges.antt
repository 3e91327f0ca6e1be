-- A FERC year's numbers stay in range, and its charges are written one after the other.
use Rattle.std.proofs.Common.{◌≡◌, ℕ, zero, suc, ◌+◌, ◌-◌, ◌*◌, ◌<◌, ◌≤◌, Bool, true, cond, leb, List, ◌++◌, length, take, set, ℤ, pos, ◌*ℤ◌, nat_abs, sym, ap, ◌∙◌, mul-le-mul, arith}
use borrow.Author.Differences.{ints}
use Rattle.std.proofs.lemmas.List.{take_more_set, append_assoc}
use Rattle.std.proofs.lemmas.Bool.{and_parts, leb-true, lt-ltb}
use Rattle.refusal.specs.Answers.{done, refused, next}
use Rattle.refusal.specs.declared.Layer.TheVariants as layer
use Rattle.book.specs.Asking.{ask_rule}
use Rattle.cents.specs.Cutting.{sum_z}
use Rattle.cents.proofs.Magnitudes.{times_abs, inside_abs}
use Rattle.cents.proofs.Quotients.{nearest_inside}
use Rattle.limits.specs.declared.TheConstants.{MOST_MEMBERS, MOST_UNITS}
use Rattle.ferc.specs.declared.rate.TheConstants.{MOST_CHARGE, MOST_RATE}
use Rattle.ferc.specs.Rates.{cost_lawful}
use Rattle.ferc.specs.Years.{charge_of, charges}

pub cost_each : (a b c : ℤ) → cost_lawful a b c ≡ true → (nat_abs a ≤ MOST_CHARGE) × (nat_abs b ≤ MOST_CHARGE) × (nat_abs c ≤ MOST_CHARGE)
cost_each a b c h =
    let p = and_parts (leb (nat_abs a) MOST_CHARGE) _ h in
    let q = and_parts (leb (nat_abs b) MOST_CHARGE) (leb (nat_abs c) MOST_CHARGE) p.1 in
    (leb-true (nat_abs a) MOST_CHARGE p.0, leb-true (nat_abs b) MOST_CHARGE q.0, leb-true (nat_abs c) MOST_CHARGE q.1)

pub product_small : (rate : ℤ) (u : ℕ) → nat_abs rate ≤ MOST_RATE → u ≤ MOST_UNITS → nat_abs (rate *ℤ pos u) ≤ MOST_RATE * MOST_UNITS
product_small rate u h k = rw (times_abs rate u) (mul-le-mul {n₂ = MOST_RATE} {m₂ = MOST_UNITS} h k)

pub charge_small : (rate : ℤ) (u : ℕ) → nat_abs rate ≤ MOST_RATE → u ≤ MOST_UNITS → nat_abs (charge_of rate u) ≤ MOST_RATE * MOST_UNITS
charge_small rate u h k =
    let i = inside_abs (rate *ℤ pos u) (charge_of rate u) (nearest_inside (rate *ℤ pos u) 100 (omega arith)) in
    omega (arith, i, product_small rate u h k)

-- the units that the book answers for a member are its units
pub ask_is : (count units member u : ℕ) → member < count → done u ≡ ask_rule count units 1 member → u ≡ units
ask_is count units member u h e =
    let d : done u ≡ done units = e ∙ ap (λ (b : Bool). next (cond b (done tt) (refused 7 layer.Book 0)) (λ _. done units)) (lt-ltb member count h) in cc

module _ (rate : ℤ) (units : ℕ → ℕ → ℕ) where
  pub charges_small : nat_abs rate ≤ MOST_RATE → ((kind member : ℕ) → units kind member ≤ MOST_UNITS) → (m n : ℕ) → nat_abs (sum_z (charges rate units m n)) ≤ MOST_RATE * MOST_UNITS * n
  charges_small h b m zero = omega arith
  charges_small h b m (suc n) =
      let c = charge_small rate (units 1 m) h (b 1 m) in
      let i = charges_small h b (m + 1) n in
      omega (arith, ints, c, i)

  pub charges_more : (count i : ℕ) (out : List ℤ) (x : ℤ) → i < count → i < length out → x ≡ charge_of rate (units 1 i) → take i out ++ charges rate units i (count - i) ≡ charges rate units 0 count
      → take (i + 1) (set out i x) ++ charges rate units (i + 1) (count - (i + 1)) ≡ charges rate units 0 count
  charges_more count i out x h l e inv =
      let m : charges rate units i (count - i) ≡ charges rate units i (suc (count - (i + 1))) = ap (charges rate units i) {x = count - i} {y = suc (count - (i + 1))} (omega arith) in
      rw (take_more_set out i x l, append_assoc, e) (ap (λ (zs : List ℤ). take i out ++ zs) (sym m) ∙ inv)

  -- no month of the most members is beyond this
  pub month_small : nat_abs rate ≤ MOST_RATE → ((kind member : ℕ) → units kind member ≤ MOST_UNITS) → (count : ℕ) → count ≤ MOST_MEMBERS → (cells : List ℤ) → cells ≡ charges rate units 0 count → nat_abs (sum_z cells) ≤ MOST_MEMBERS * (MOST_RATE * MOST_UNITS)
  month_small h b count few cells e = rw e (let s = charges_small h b 0 count in omega (arith, s, few))
