-- What a correction answers, and what it leaves.
use Rattle.std.specs.Prelude.{◌≡◌, ℕ, ◌≤◌, Bool, cond, ◌&&◌, ◌||◌, ℤ, pos, ◌+ℤ◌, ◌==◌, int_lt, nat_lt, unsigned_abs}
use Rattle.refusal.specs.Answers.{Answer, done, refused, next}
use Rattle.refusal.specs.declared.Layer.TheVariants as layer
use Rattle.limits.specs.declared.TheConstants.{MOST_UNITS}
use Rattle.book.specs.Asking.{ask_rule}

-- 16 where the corrected units would be below 0 or above 2,000,000,000
abbrev pub sum_rule : ℕ → ℤ → Answer ℕ
sum_rule units amount =
    cond (int_lt (pos units +ℤ amount) (pos 0) || int_lt (pos MOST_UNITS) (pos units +ℤ amount))
    (refused 16 layer.Book 0)
    (done (unsigned_abs (pos units +ℤ amount)))

-- 2 where the amount is beyond ±2,000,000,000, then the ask's 6 and 7, then 16
abbrev pub new_units_rule : ℕ → ℕ → ℕ → ℕ → ℤ → Answer ℕ
new_units_rule count units kind member amount =
    cond (nat_lt MOST_UNITS (unsigned_abs amount)) (refused 2 layer.Book 0)
    (next (ask_rule count units kind member) (λ units. sum_rule units amount))

-- and last 15, where the book does not take the pair
abbrev pub taken_rule : Bool → ℕ → Answer ℕ
taken_rule takes units = cond takes (done units) (refused 15 layer.Book 0)

abbrev pub correct_rule : ℕ → ℕ → Bool → ℕ → ℕ → ℤ → Answer ℕ
correct_rule count units takes kind member amount = next (new_units_rule count units kind member amount) (taken_rule takes)

abbrev pub same_pair : ℕ × ℕ → ℕ × ℕ → Bool
same_pair p q = p.0 == q.0 && p.1 == q.1

-- the units of a pair after an accepted correction: one pair's are corrected, the others' stay
abbrev pub corrected_units : ℕ → ℤ → ℕ × ℕ → ℕ × ℕ → ℕ
corrected_units units amount pair corrected = cond (same_pair pair corrected) (unsigned_abs (pos units +ℤ amount)) units

-- the units of all kinds and members before an accepted correction of a pair, and after it
abbrev pub Corrected : (ℕ → ℕ → ℕ) → (ℕ → ℕ → ℕ) → ℤ → ℕ × ℕ → Type 0
Corrected before after amount corrected = (k m : ℕ) → 1 ≤ k → after k m ≡ corrected_units (before k m) amount (k, m) corrected

-- whether a pair is kept after it: the corrected one is, and those that were
abbrev pub kept_after : Bool → ℕ × ℕ → ℕ × ℕ → Bool
kept_after keeps pair corrected = same_pair pair corrected || keeps
