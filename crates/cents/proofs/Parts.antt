-- The parts of a cut lie inside the amount and add up to it.
use Rattle.std.proofs.Common.{◌≡◌, ℕ, zero, suc, ◌+◌, ◌-◌, ◌*◌, ◌^◌, ◌<◌, ◌≤◌, min, List, [], ◌∷◌, ◌++◌, length, get_or, take, drop, set, ℤ, pos, ◌+ℤ◌, ◌-ℤ◌, ◌*ℤ◌, sum, sym, refl, ap, ◌∙◌, subst, mul-le-mul, arith, w64, SFits}
use Rattle.std.proofs.lemmas.List.{take_more_set, drop_more, append_assoc}
use borrow.Author.Differences.{ints, up, down}
use mir.Syntax.{w128}
use Rattle.std.proofs.lemmas.List.Sums.{sum_by-cons}
use Rattle.cents.specs.Rounding.{Inside}
use Rattle.cents.specs.Cutting.{taken, parts_from, parts_up_to, cut, sum_z}
use Rattle.cents.proofs.Products.{mul_plus, mul_minus}
use Rattle.cents.proofs.Quotients.{inside, down_left, down_unique}

difference : (a f g : ℤ) (T x u r s : ℕ) → a *ℤ pos x ≡ (pos T *ℤ f) +ℤ pos r → a *ℤ pos (x + u) ≡ (pos T *ℤ g) +ℤ pos s → (pos T *ℤ (g -ℤ f)) +ℤ pos s ≡ (a *ℤ pos u) +ℤ pos r
difference a f g T x u r s p q =
    let m = mul_minus (pos T) g f in
    let n = mul_plus a (pos x) (pos u) in
    omega (arith, ints, m, n)

-- T times a part is its share of T times the amount, to within the two remainders
pub part_left : (a : ℤ) (T x u : ℕ) → 0 < T → (r : ℕ) × (s : ℕ) × (r < T) × (s < T) × ((pos T *ℤ (taken a T (x + u) -ℤ taken a T x)) +ℤ pos s ≡ (a *ℤ pos u) +ℤ pos r)
part_left a T x u h =
    let f = down_left (a *ℤ pos x) T h in
    let g = down_left (a *ℤ pos (x + u)) T h in
    (f.0, g.0, f.1, g.1, difference a (taken a T x) (taken a T (x + u)) T x u f.0 g.0 f.2 g.2)

pub part_inside : (a : ℤ) (T x u : ℕ) → x + u ≤ T → Inside a (taken a T (x + u) -ℤ taken a T x)
part_inside a zero x u h = (omega arith, omega arith)
part_inside a (suc T) x u h =
    let p = part_left a (suc T) x u (omega arith) in
    inside a (taken a (suc T) (x + u) -ℤ taken a (suc T) x) (suc T) u p.0 p.1 (omega arith) p.2 p.3 p.4

pub taken_none : (a : ℤ) (T : ℕ) → taken a T 0 ≡ pos 0
taken_none a zero = refl
taken_none a (suc T) = down_unique (a *ℤ pos 0) (pos 0) (suc T) 0 (omega arith) (omega (arith, ints))

taken_inside : (a : ℤ) (T u : ℕ) → u ≤ T → Inside a (taken a T u)
taken_inside a T u h =
    let z = taken_none a T in
    let e = ap (taken a T) {x = 0 + u} {y = u} (omega arith) in
    subst (Inside a) (omega (arith, ints, z, e)) (part_inside a T 0 u (omega arith))

-- a running sum above the whole counts as the whole
pub taken_up_to_inside : (a : ℤ) (T x : ℕ) → Inside a (taken a T (min x T))
taken_up_to_inside a T x = taken_inside a T (min x T) (omega arith)

pub taken_all : (a : ℤ) (T : ℕ) → 0 < T → taken a T T ≡ a
taken_all a T h = down_unique (a *ℤ pos T) a T 0 h (omega (arith, ints))

-- the parts from a running sum on add up to what is not taken yet
pub parts_sum : (a : ℤ) (T x : ℕ) (ws : List ℕ) → sum_z (parts_from a T x ws) ≡ taken a T (x + sum ws) -ℤ taken a T x
parts_sum a T x [] = let e = ap (taken a T) {x = x + 0} {y = x} (omega arith) in omega (arith, ints, e)
parts_sum a T x (w ∷ ws) =
    let i = parts_sum a T (x + w) ws in
    let e : x + w + sum ws ≡ x + sum (w ∷ ws) = omega (arith, sum_by-cons (λ n. n) w ws) in
    let f = ap (taken a T) e in
    omega (arith, ints, i, f)

pub cut_sum : (a : ℤ) (ws : List ℕ) → 0 < sum ws → sum_z (cut a ws) ≡ a
cut_sum a ws h =
    let p = parts_sum a (sum ws) 0 ws in
    let z = taken_none a (sum ws) in
    let t = ap (taken a (sum ws)) {x = 0 + sum ws} {y = sum ws} (omega arith) ∙ taken_all a (sum ws) h in
    omega (arith, ints, p, z, t)

pub product_fits : (a x y : ℤ) (n : ℕ) → SFits w64 a → n < 2 ^ 64 → x ≡ a → y ≡ pos n → SFits w128 (x *ℤ y)
product_fits a x y n f h e g =
    let p : up a * n ≤ (2 ^ 63) * (2 ^ 64 - 1) = mul-le-mul {n₂ = 2 ^ 63} {m₂ = 2 ^ 64 - 1} (omega (arith, ints)) (omega arith) in
    let q : down a * n ≤ (2 ^ 63) * (2 ^ 64 - 1) = mul-le-mul {n₂ = 2 ^ 63} {m₂ = 2 ^ 64 - 1} (omega (arith, ints)) (omega arith) in
    rw (e, g) (omega (arith, ints, p, q))

pub up_to_inside : (a : ℤ) (T x u : ℕ) → Inside a (taken a T (min (x + u) T) -ℤ taken a T (min x T))
up_to_inside a T x u =
    let e : min x T + (min (x + u) T - min x T) ≡ min (x + u) T = omega arith in
    subst (λ (n : ℕ). Inside a (taken a T n -ℤ taken a T (min x T))) e (part_inside a T (min x T) (min (x + u) T - min x T) (omega arith))

-- one part more: the parts so far, followed by those that are left, stay all parts
pub parts_more : (a : ℤ) (T i run w : ℕ) (p : ℤ) (ws : List ℕ) (ps all : List ℤ) → i < length ws → i < length ps → w ≡ get_or ws i 0
    → p ≡ taken a T (min (run + w) T) -ℤ taken a T (min run T) → take i ps ++ parts_up_to a T run (drop i ws) ≡ all
    → take (i + 1) (set ps i p) ++ parts_up_to a T (run + w) (drop (i + 1) ws) ≡ all
parts_more a T i run w p ws ps all lw lp f e h =
    let d : parts_up_to a T run (drop i ws) ≡ parts_up_to a T run (w ∷ drop (i + 1) ws) = rw f (ap (parts_up_to a T run) (drop_more ws i 0 lw)) in
    rw (take_more_set ps i p lp, append_assoc, e) (ap (λ (xs : List ℤ). take i ps ++ xs) (sym d) ∙ h)

-- the parts of weights that do not pass the whole
up_to_from : (a : ℤ) (T x : ℕ) (ws : List ℕ) → x + sum ws ≤ T → parts_up_to a T x ws ≡ parts_from a T x ws
up_to_from a T x [] h = refl
up_to_from a T x (w ∷ ws) h =
    let l : x + w + sum ws ≤ T = omega (arith, sum_by-cons (λ n. n) w ws) in
    let f : min (x + w) T ≡ x + w = omega arith in
    let e : min x T ≡ x = omega arith in
    rw (f, e, up_to_from a T (x + w) ws l) refl

pub up_to_cut : (a : ℤ) (T : ℕ) (ws : List ℕ) → T ≡ sum ws → parts_up_to a T 0 ws ≡ cut a ws
up_to_cut a T ws e = rw e (up_to_from a (sum ws) 0 ws (omega arith))

-- every part of a cut lies between 0 and the amount
pub parts_inside : (a : ℤ) (T x : ℕ) (ws : List ℕ) (k : ℕ) → x + sum ws ≤ T → Inside a (get_or (parts_from a T x ws) k (pos 0))
parts_inside a T x [] k h = (omega arith, omega arith)
parts_inside a T x (w ∷ ws) zero h = part_inside a T x w (omega (arith, sum_by-cons (λ n. n) w ws))
parts_inside a T x (w ∷ ws) (suc k) h = parts_inside a T (x + w) ws k (omega (arith, sum_by-cons (λ n. n) w ws))

pub cut_inside : (a : ℤ) (ws : List ℕ) (k : ℕ) → Inside a (get_or (cut a ws) k (pos 0))
cut_inside a ws k = parts_inside a (sum ws) 0 ws k (omega arith)

pub parts_length : (a : ℤ) (T x : ℕ) (ws : List ℕ) → length (parts_from a T x ws) ≡ length ws
parts_length a T x [] = refl
parts_length a T x (w ∷ ws) = ap suc (parts_length a T (x + w) ws)

pub cut_length : (a : ℤ) (ws : List ℕ) → length (cut a ws) ≡ length ws
cut_length a ws = parts_length a (sum ws) 0 ws
