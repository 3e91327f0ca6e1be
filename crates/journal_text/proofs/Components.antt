-- Texts that are no component: a zero before more digits, and more than three digits.
use Rattle.std.proofs.Common.{◌≡◌, ℕ, ◌+◌, ◌-◌, ◌*◌, ◌<◌, ◌≤◌, Bool, true, false, cond, ◌&&◌, List, [], ◌∷◌, length, get_or, take, Some, None, Option, refl, arith}
use Rattle.std.proofs.lemmas.Bool.Decides.{nat_tests}
use Rattle.std.specs.Prelude.{nat_eq, nat_le, nat_lt, bytes_eq}
use lib.Pointwise.{pointwise}
use Rattle.month_text.specs.declared.month.TheConstants.{MOST_NUMBER}
use Rattle.month_text.specs.Numbers.{bind, is_digit, digits_on}
use Rattle.month_text.specs.Lines.{past}
use Rattle.journal_text.specs.Pieces.{component_of}

abbrev Ended : ℕ × List ℕ → Option ℕ
Ended p = cond (nat_lt p.0 1000 && bytes_eq p.1 (10 ∷ [])) (Some p.0) None

two_left : (x y : Bool) (n : ℕ) → cond (x && (y && false)) (Some n) None ≡ None
two_left true true n = refl
two_left true false n = refl
two_left false y n = refl

not_ended : (n b c : ℕ) (t : List ℕ) → Ended (n, b ∷ c ∷ t) ≡ None
not_ended n b c t = two_left (nat_lt n 1000) (nat_eq b 10) n

step : (n c : ℕ) (cs : List ℕ) (d b : Bool) → is_digit c ≡ d → (nat_lt 0 n && nat_le (n * 10) MOST_NUMBER) ≡ b → (d ≡ false → Ended (n, c ∷ cs) ≡ None) → (d ≡ true → b ≡ true → bind (digits_on (n * 10 + (c - 48)) cs) Ended ≡ None) → bind (digits_on n (c ∷ cs)) Ended ≡ None
step n c cs true true h k stop go = rw (h, k) (go refl refl)
step n c cs true false h k stop go = rw (h, k) refl
step n c cs false b h k stop go = rw h (stop refl)

-- four digits are too many
big_ended : (n : ℕ) (t : List ℕ) → 1000 ≤ n → Ended (n, t) ≡ None
big_ended n t h = let e : nat_lt n 1000 ≡ false = grind (arith, nat_tests) in rw e refl

big : (n : ℕ) (t : List ℕ) → 1000 ≤ n → bind (digits_on n t) Ended ≡ None
big n [] h = big_ended n [] h
big n (c ∷ cs) h = step n c cs (is_digit c) _ refl refl (λ e. big_ended n (c ∷ cs) h) (λ e f. big (n * 10 + (c - 48)) cs (omega arith))

positive : (n : ℕ) → (nat_lt 0 n && nat_le (n * 10) MOST_NUMBER) ≡ true → 1 ≤ n
positive n e = grind (arith, nat_tests)

first : (c : ℕ) (cs : List ℕ) (d : Bool) → is_digit c ≡ d → (d ≡ true → bind (digits_on (c - 48) cs) Ended ≡ None) → component_of (c ∷ cs) ≡ None
first c cs true h go = rw h (go refl)
first c cs false h go = rw h refl

pub long : (s : List ℕ) → 5 ≤ length s → component_of s ≡ None
long [] h = absurd (omega arith)
long (a ∷ []) h = absurd (omega arith)
long (a ∷ b ∷ []) h = absurd (omega arith)
long (a ∷ b ∷ c ∷ []) h = absurd (omega arith)
long (a ∷ b ∷ c ∷ d ∷ []) h = absurd (omega arith)
long (a ∷ b ∷ c ∷ d ∷ e ∷ t) h =
    (first a (b ∷ c ∷ d ∷ e ∷ t) (is_digit a) refl (λ _.
    step (a - 48) b (c ∷ d ∷ e ∷ t) (is_digit b) _ refl refl (λ _. not_ended (a - 48) b c (d ∷ e ∷ t)) (λ _ p.
    step ((a - 48) * 10 + (b - 48)) c (d ∷ e ∷ t) (is_digit c) _ refl refl (λ _. not_ended ((a - 48) * 10 + (b - 48)) c d (e ∷ t)) (λ _ q.
    step (((a - 48) * 10 + (b - 48)) * 10 + (c - 48)) d (e ∷ t) (is_digit d) _ refl refl (λ _. not_ended (((a - 48) * 10 + (b - 48)) * 10 + (c - 48)) d e t) (λ _ r.
    let u = positive (a - 48) p in
    big ((((a - 48) * 10 + (b - 48)) * 10 + (c - 48)) * 10 + (d - 48)) (e ∷ t) (omega arith))))))

-- nothing but its own end may follow a first 0
pub leading : (s : List ℕ) → 3 ≤ length s → get_or s 0 0 < 49 → component_of s ≡ None
leading [] h l = absurd (omega arith)
leading (a ∷ []) h l = absurd (omega arith)
leading (a ∷ b ∷ []) h l = absurd (omega arith)
leading (a ∷ b ∷ c ∷ t) h l =
    (first a (b ∷ c ∷ t) (is_digit a) refl (λ _.
    step (a - 48) b (c ∷ t) (is_digit b) _ refl refl (λ _. not_ended (a - 48) b c t) (λ _ p.
    let u = positive (a - 48) p in absurd (omega arith))))

true_false : true ≡ false → ⊥
true_false e = cc

past_by : (b : Bool) (k : ℕ) (ks : List ℕ) (c : ℕ) (cs : List ℕ) → nat_eq c k ≡ b → (b && pointwise nat_eq (take (length ks) cs) ks) ≡ false → (pointwise nat_eq (take (length ks) cs) ks ≡ false → past ks cs ≡ None) → past (k ∷ ks) (c ∷ cs) ≡ None
past_by true k ks c cs h e ih = rw h (ih e)
past_by false k ks c cs h e ih = rw h refl

-- a text that does not begin with the word
pub past_other : (w s : List ℕ) → pointwise nat_eq (take (length w) s) w ≡ false → past w s ≡ None
past_other [] s e = absurd (true_false e)
past_other (k ∷ ks) [] e = refl
past_other (k ∷ ks) (c ∷ cs) e = past_by (nat_eq c k) k ks c cs refl e (past_other ks cs)
