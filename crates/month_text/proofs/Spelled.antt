-- The numbers that are read are those that are written in decimal digits.
use Rattle.std.proofs.Common.{◌≡◌, ℕ, ◌+◌, ◌-◌, ◌*◌, ◌/◌, ◌%◌, ◌<◌, ◌≤◌, Bool, true, false, cond, ◌&&◌, ltb, leb, List, [], ◌∷◌, ◌++◌, get_or, Some, None, decimal, sym, refl, ap, ◌∙◌, subst, append_assoc, arith}
use Rattle.std.proofs.lemmas.Fmt.{decimal_digit, decimal_step, decimal_by_steps}
use Rattle.std.proofs.lemmas.Bool.{leb-true, ltb-true, and_parts}
use Rattle.std.proofs.lemmas.Bool.Decides.{nat_tests}
use Rattle.month_text.specs.Numbers.{is_digit, digits_on, number_at}
use Rattle.month_text.specs.declared.month.TheConstants.{MOST_NUMBER}
use Rattle.month_text.specs.Spelling.{Spelled, ReadAsSpelled}

-- what is read of a number's digits, as long as they are few
abbrev Read : ℕ → List ℕ → Type 0
Read n ds = n ≤ MOST_NUMBER → (t : List ℕ) → number_at (ds ++ t) ≡ digits_on n t

one : (n : ℕ) → n < 10 → Read n ((48 + n) ∷ [])
one n h small t = let e : 48 + n - 48 ≡ n = omega arith in grind (arith, nat_tests)

more : (n : ℕ) (ds : List ℕ) → 10 ≤ n → Read (n / 10) ds → Read n (ds ++ ((48 + n % 10) ∷ []))
more n ds h ih small t =
    let e : n / 10 * 10 + (48 + n % 10 - 48) ≡ n = omega arith in
    let d : digits_on (n / 10) ((48 + n % 10) ∷ t) ≡ digits_on (n / 10 * 10 + (48 + n % 10 - 48)) t = grind (arith, nat_tests) in
    rw append_assoc (ih (omega arith) ((48 + n % 10) ∷ t) ∙ d ∙ ap (λ m. digits_on m t) e)

stops : (n : ℕ) (t : List ℕ) → is_digit (get_or t 0 0) ≡ false → digits_on n t ≡ Some (n, t)
stops n [] h = refl
stops n (c ∷ cs) h = rw h refl

-- what is spelled is read
read_if_spelled : (s : List ℕ) (n : ℕ) (t : List ℕ) → Spelled s n t → number_at s ≡ Some (n, t)
read_if_spelled s n t h =
    ap number_at h.0 ∙ decimal_by_steps Read one more n (omega arith) h.1 t ∙ stops n t h.2

abbrev From : ℕ → List ℕ → ℕ × List ℕ → Type 0
From n cs v = (decimal n ++ cs ≡ decimal v.0 ++ v.1) × (v.0 ≤ MOST_NUMBER) × (is_digit (get_or v.1 0 0) ≡ false)

digit_range : (c : ℕ) → is_digit c ≡ true → (48 ≤ c) × (c ≤ 57)
digit_range c d = let a = and_parts (leb 48 c) (leb c 57) d in (leb-true 48 c a.0, leb-true c 57 a.1)

digit_on : (n c : ℕ) (cs : List ℕ) → is_digit c ≡ true → 0 < n → n * 10 ≤ MOST_NUMBER → decimal n ++ (c ∷ cs) ≡ decimal (n * 10 + (c - 48)) ++ cs
digit_on n c cs d p q =
    let r = digit_range c d in
    let tens : (n * 10 + (c - 48)) / 10 ≡ n = omega arith in
    let ones : 48 + (n * 10 + (c - 48)) % 10 ≡ c = omega arith in
    let step = decimal_step (n * 10 + (c - 48)) (omega arith) (omega arith) in
    rw step (rw (tens, ones) (sym (append_assoc (decimal n) (c ∷ []) cs)))

from_cases : (n c : ℕ) (cs : List ℕ) (v : ℕ × List ℕ) (d b : Bool) → is_digit c ≡ d → (ltb 0 n && leb (n * 10) MOST_NUMBER) ≡ b → n ≤ MOST_NUMBER → cond d (cond b (digits_on (n * 10 + (c - 48)) cs) None) (Some (n, c ∷ cs)) ≡ Some v → ((m : ℕ) → m ≤ MOST_NUMBER → digits_on m cs ≡ Some v → From m cs v) → From n (c ∷ cs) v
from_cases n c cs v true true hd hb small e ih =
    let a = and_parts (ltb 0 n) (leb (n * 10) MOST_NUMBER) hb in
    let p = ltb-true 0 n a.0 in
    let q = leb-true (n * 10) MOST_NUMBER a.1 in
    let f = digit_range c hd in
    let r = ih (n * 10 + (c - 48)) (omega arith) e in
    (digit_on n c cs hd p q ∙ r.0, r.1, r.2)
from_cases n c cs v true false hd hb small e ih = absurd cc
from_cases n c cs v false b hd hb small e ih =
    let d : (n, c ∷ cs) ≡ v = cc in
    subst (From n (c ∷ cs)) d (refl, small, hd)

from_digits : (n : ℕ) (cs : List ℕ) (v : ℕ × List ℕ) → n ≤ MOST_NUMBER → digits_on n cs ≡ Some v → From n cs v
from_digits n [] v small e =
    let d : (n, []) ≡ v = cc in
    subst (From n []) d (refl, small, refl)
from_digits n (c ∷ cs) v small e =
    from_cases n c cs v (is_digit c) (ltb 0 n && leb (n * 10) MOST_NUMBER) refl refl small e (λ m h f. from_digits m cs v h f)

first_digit : (c : ℕ) (cs : List ℕ) (v : ℕ × List ℕ) (d : Bool) → is_digit c ≡ d → cond d (digits_on (c - 48) cs) None ≡ Some v → Spelled (c ∷ cs) v.0 v.1
first_digit c cs v true hd e =
    let f = digit_range c hd in
    let r = from_digits (c - 48) cs v (omega arith) e in
    let b : 48 + (c - 48) ≡ c = omega arith in
    let w : decimal (c - 48) ≡ c ∷ [] = decimal_digit (c - 48) (omega arith) ∙ ap (λ x. x ∷ []) b in
    (sym (ap (λ ds. ds ++ cs) w) ∙ r.0, r.1, r.2)
first_digit c cs v false hd e = absurd cc

-- what is read is spelled
spelled_if_read : (s : List ℕ) (v : ℕ × List ℕ) → number_at s ≡ Some v → Spelled s v.0 v.1
spelled_if_read [] v e = absurd cc
spelled_if_read (c ∷ cs) v e = first_digit c cs v (is_digit c) refl e

pub read_as_spelled : (s : List ℕ) → ReadAsSpelled s
read_as_spelled s n t = (spelled_if_read s (n, t), read_if_spelled s n t)
