-- One byte off the front of a text, as a slice pattern takes it.
use Rattle.std.proofs.Common.{◌≡◌, ℕ, zero, suc, ◌+◌, ◌-◌, ◌*◌, ◌<◌, ◌≤◌, Bool, true, List, [], ◌∷◌, length, get_or, take, drop, pos, neg_ℤ, Some, None, refl, add-one, arith}
use Rattle.std.proofs.lemmas.List.{take_rest}
use Rattle.std.proofs.lemmas.Bool.Decides.{nat_tests}
use Rattle.month_text.specs.Numbers.{bind, minus, digits_on, number_at, integer_at}
use Rattle.month_text.specs.declared.month.TheConstants.{MOST_NUMBER}
use Rattle.month_text.specs.Lines.{past}

abbrev pub rest : List ℕ → List ℕ
rest s = take (length s - 1) (drop 1 s)

pub on_digit : (n : ℕ) (s : List ℕ) → 48 ≤ get_or s 0 0 → get_or s 0 0 ≤ 57 → 0 < n → n * 10 ≤ MOST_NUMBER → digits_on n s ≡ digits_on (n * 10 + (get_or s 0 0 - 48)) (rest s)
on_digit n [] a b p q = absurd (omega arith)
on_digit n (x ∷ xs) a b p q = rw take_rest (grind (arith, nat_tests))

pub at_digit : (s : List ℕ) → 48 ≤ get_or s 0 0 → get_or s 0 0 ≤ 57 → number_at s ≡ digits_on (get_or s 0 0 - 48) (rest s)
at_digit [] a b = absurd (omega arith)
at_digit (x ∷ xs) a b = rw take_rest (grind (arith, nat_tests))

pub on_none : (n : ℕ) (s : List ℕ) → length s < 1 → digits_on n s ≡ Some (n, s)
on_none n [] h = refl
on_none n (x ∷ xs) h = absurd (omega arith)

pub on_below : (n : ℕ) (s : List ℕ) → get_or s 0 0 < 48 → digits_on n s ≡ Some (n, s)
on_below n [] h = refl
on_below n (x ∷ xs) h = grind (arith, nat_tests)

pub on_above : (n : ℕ) (s : List ℕ) → 57 < get_or s 0 0 → digits_on n s ≡ Some (n, s)
on_above n [] h = refl
on_above n (x ∷ xs) h = grind (arith, nat_tests)

pub past_end : (w s : List ℕ) (i : ℕ) → i < length w → length s < 1 → past (drop i w) s ≡ None
past_end [] s i l h = absurd (omega arith)
past_end (k ∷ ks) s (suc i) l h = past_end ks s i (omega arith) h
past_end (k ∷ ks) [] zero l h = refl
past_end (k ∷ ks) (x ∷ xs) zero l h = absurd (omega arith)

pub past_step : (w s : List ℕ) (i : ℕ) → i < length w → 1 ≤ length s → get_or s 0 0 ≡ get_or w i 0 → past (drop i w) s ≡ past (drop (i + 1) w) (rest s)
past_step [] s i l h d = absurd (omega arith)
past_step (k ∷ ks) s (suc i) l h d = rw add-one (rw add-one at (past_step ks s i (omega arith) h d))
past_step (k ∷ ks) [] zero l h d = absurd (omega arith)
past_step (k ∷ ks) (x ∷ xs) zero l h d = rw take_rest (grind (arith, nat_tests))

pub past_other : (w s : List ℕ) (i : ℕ) → i < length w → 1 ≤ length s → (get_or s 0 0 ≡ get_or w i 0 → ⊥) → past (drop i w) s ≡ None
past_other [] s i l h d = absurd (omega arith)
past_other (k ∷ ks) s (suc i) l h d = past_other ks s i (omega arith) h d
past_other (k ∷ ks) [] zero l h d = absurd (omega arith)
past_other (k ∷ ks) (x ∷ xs) zero l h d = grind (arith, nat_tests)

-- a sign, where signs are allowed
integer_signed : (signs : Bool) (s : List ℕ) → signs ≡ true → 1 ≤ length s → get_or s 0 0 ≡ 45 → integer_at signs s ≡ bind (number_at (rest s)) (λ p. bind (minus p.0) (λ z. Some (z, p.1)))
integer_signed signs [] y e d = absurd (omega arith)
integer_signed signs (x ∷ xs) y e d = rw take_rest (rw y (rw d refl))

pub signed_none : (signs : Bool) (s : List ℕ) → signs ≡ true → 1 ≤ length s → get_or s 0 0 ≡ 45 → number_at (rest s) ≡ None → integer_at signs s ≡ None
signed_none signs s y e d n = rw (integer_signed signs s y e d) (rw n refl)

pub signed_zero : (signs : Bool) (s : List ℕ) (n : ℕ) (t : List ℕ) → signs ≡ true → 1 ≤ length s → get_or s 0 0 ≡ 45 → number_at (rest s) ≡ Some (n, t) → n ≡ 0 → integer_at signs s ≡ None
signed_zero signs s n t y e d f z = rw (integer_signed signs s y e d) (rw f (rw z refl))

pub signed_some : (signs : Bool) (s : List ℕ) (n : ℕ) (t : List ℕ) → signs ≡ true → 1 ≤ length s → get_or s 0 0 ≡ 45 → number_at (rest s) ≡ Some (n, t) → (n ≡ 0 → ⊥) → integer_at signs s ≡ Some (neg_ℤ (pos n), t)
signed_some signs s zero t y e d f z = absurd (z refl)
signed_some signs s (suc n) t y e d f z = rw (integer_signed signs s y e d) (rw f refl)

-- for the functions that take a digit, a word or a sign off the front
pub ruleset digit_steps = (on_digit, at_digit, on_none, on_below, on_above)

pub ruleset word_steps = (past_end, past_step, past_other)

pub ruleset sign_steps = (signed_none, signed_zero, signed_some)
