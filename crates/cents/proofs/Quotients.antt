-- A quotient rounded down, by its remainder.
use Rattle.std.proofs.Common.{◌≡◌, ℕ, zero, suc, ◌+◌, ◌-◌, ◌*◌, ◌%◌, ◌<◌, ◌≤◌, ℤ, pos, negsuc, ◌+ℤ◌, ◌*ℤ◌, sym, refl, ap, ◌∙◌, mul-le-mul_left, arith}
use borrow.Author.Differences.{ints}
use Rattle.std.proofs.Math.Nat.{lt_of_mul-lt-mul_left}
use Rattle.std.specs.Int.{int_div_euclid}
use Rattle.cents.specs.Rounding.{round_down, round_nearest, Largest, Inside}
use Rattle.cents.proofs.Products.{mul_plus}

-- what is left of a number after its quotient
abbrev pub Left : ℤ → ℕ → ℤ → Type 0
Left a b q = (r : ℕ) × (r < b) × (a ≡ (pos b *ℤ q) +ℤ pos r)

pub down_left : (a : ℤ) (b : ℕ) → 0 < b → Left a b (round_down a b)
down_left a zero h = absurd (omega arith)
down_left (pos a) (suc b) h = (a % suc b, omega arith, omega (arith, ints))
down_left (negsuc a) (suc b) h = (b - a % suc b, omega arith, omega (arith, ints))

below : (a d T : ℕ) → T * d < T * a + T → d ≤ a
below a d T h = let l : d < a + 1 = lt_of_mul-lt-mul_left T (omega (arith, h)) in omega arith

-- what takes u of T of an amount, to within T, lies between 0 and the amount
pub inside : (a d : ℤ) (T u r s : ℕ) → u ≤ T → r < T → s < T → (pos T *ℤ d) +ℤ pos s ≡ (a *ℤ pos u) +ℤ pos r → Inside a d
inside (pos a) (pos d) T u r s hu hr hs e = (below a d T (omega (arith, ints, mul-le-mul_left a hu)), omega arith)
inside (pos a) (negsuc d) T u r s hu hr hs e = absurd (omega (arith, ints))
inside (negsuc a) (pos zero) T u r s hu hr hs e = (omega arith, omega arith)
inside (negsuc a) (pos (suc d)) T u r s hu hr hs e = absurd (omega (arith, ints))
inside (negsuc a) (negsuc d) T u r s hu hr hs e = (omega arith, below (suc a) (suc d) T (omega (arith, ints, mul-le-mul_left (suc a) hu)))

pub nearest_inside : (a : ℤ) (b : ℕ) → 0 < b → Inside a (round_nearest a b)
nearest_inside a b h =
    let l = down_left ((pos 2 *ℤ a) +ℤ pos b) (2 * b) (omega arith) in
    inside a (round_nearest a b) (2 * b) 2 b l.0 (omega arith) (omega arith) l.1 (omega (arith, ints, l.2))

pub down_is : (a : ℤ) (b : ℕ) → 0 < b → int_div_euclid a (pos b) ≡ round_down a b
down_is a zero h = absurd (omega arith)
down_is a (suc b) h = refl

pub down_largest : (a : ℤ) (b : ℕ) → 0 < b → Largest a b (round_down a b)
down_largest a b h =
    let l = down_left a b h in
    let m = mul_plus (pos b) (round_down a b) (pos 1) in
    (omega (arith, ints, l.2), omega (arith, ints, l.1, l.2, m))

pub nearest_is : {x y : ℤ} (a q : ℤ) (b : ℕ) → q ≡ int_div_euclid x y → 0 < b → x ≡ (pos 2 *ℤ a) +ℤ pos b → y ≡ pos (2 * b) → q ≡ round_nearest a b
nearest_is a q b d h e f = d ∙ rw (e, f) (down_is ((pos 2 *ℤ a) +ℤ pos b) (2 * b) (omega arith))

-- a quotient is fixed by its product and a remainder
apart : (p q b r s : ℕ) → r < b → s < b → b * p + r ≡ b * q + s → p ≤ q
apart p q b r s hr hs e = below q p b (omega arith)

same_quotient : (p q : ℤ) (b r s : ℕ) → r < b → s < b → (pos b *ℤ p) +ℤ pos r ≡ (pos b *ℤ q) +ℤ pos s → p ≡ q
same_quotient (pos p) (pos q) b r s hr hs e =
    let l = apart p q b r s hr hs (omega (arith, ints)) in
    let g = apart q p b s r hs hr (omega (arith, ints)) in
    ap pos (omega arith)
same_quotient (pos p) (negsuc q) b r s hr hs e = absurd (omega (arith, ints))
same_quotient (negsuc p) (pos q) b r s hr hs e = absurd (omega (arith, ints))
same_quotient (negsuc p) (negsuc q) b r s hr hs e =
    let l = apart p q b s r hs hr (omega (arith, ints)) in
    let g = apart q p b r s hr hs (omega (arith, ints)) in
    ap negsuc (omega arith)

pub down_unique : (a q : ℤ) (b r : ℕ) → r < b → a ≡ (pos b *ℤ q) +ℤ pos r → round_down a b ≡ q
down_unique a q b r h e =
    let l = down_left a b (omega arith) in
    same_quotient (round_down a b) q b l.0 r l.1 h (sym l.2 ∙ e)

-- any number times 0 rounds to 0
pub nearest_none : (b : ℕ) (z : ℤ) → 0 < b → round_nearest (z *ℤ pos 0) b ≡ pos 0
nearest_none b z h = down_unique ((pos 2 *ℤ (z *ℤ pos 0)) +ℤ pos b) (pos 0) (2 * b) b (omega arith) (omega (arith, ints))
