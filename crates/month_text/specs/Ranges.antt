-- The numbers of a line within their range, else the refusal that the line gets.
use Rattle.std.specs.Prelude.{ℕ, Bool, true, false, cond, ◌&&◌, List, [], ◌∷◌, ℤ, pos, negsuc, Some, None, sum, Option, ◌==◌, nat_le, slice_index_or, unsigned_abs}
use Rattle.std.specs.List.{list_all}
use Rattle.refusal.specs.declared.Layer.TheVariants.{Text, Sheet}
use Rattle.refusal.specs.Answers.{Answer, next}
use Rattle.month_text.specs.Numbers.{bind}
use Rattle.month_text.specs.Lines.{line_at}

-- the three refusals of a line: off the layout, out of range, weights that do not add up
abbrev pub off_layout : {T : Type 0} → ℕ → Answer T
off_layout line = Answer.refused 1 Text line

abbrev pub out_of_range : {T : Type 0} → ℕ → Answer T
out_of_range line = Answer.refused 2 Text line

abbrev pub off_balance : {T : Type 0} → ℕ → Answer T
off_balance line = Answer.refused 3 Sheet line

-- go on with what was found, else the given refusal
abbrev pub or_else : {X T : Type 0} → Option X → Answer T → (X → Answer T) → Answer T
or_else None otherwise k = otherwise
or_else (Some x) otherwise k = k x

-- the step on each element, as long as it finds something
abbrev pub each : {X Y : Type 0} → (X → Option Y) → List X → Option (List Y)
each f [] = Some []
each f (x ∷ xs) = bind (f x) (λ y. bind (each f xs) (λ ys. Some (y ∷ ys)))

-- a number from low to high, which is not negative
abbrev pub natural_in : ℕ → ℕ → ℤ → Option ℕ
natural_in low high (pos n) = cond (nat_le low n && nat_le n high) (Some n) None
natural_in low high (negsuc n) = None

-- a number not further than most from zero
abbrev pub amount_in : ℕ → ℤ → Bool
amount_in most z = nat_le (unsigned_abs z) most

-- a line of one number from low to high
abbrev pub number_at_line : List ℕ → ℕ → ℕ → ℕ → List ℕ → Answer (ℕ × List ℕ)
number_at_line key low high line s =
    or_else (line_at key false 1 s) (off_layout line) (λ p.
    or_else (natural_in low high (slice_index_or p.0 0 (pos 0))) (out_of_range line) (λ n. Answer.done (n, p.1)))

-- a line of numbers from low to high
abbrev pub naturals_at : List ℕ → ℕ → ℕ → ℕ → ℕ → List ℕ → Answer (List ℕ × List ℕ)
naturals_at key count low high line s =
    or_else (line_at key false count s) (off_layout line) (λ p.
    or_else (each (natural_in low high) p.0) (out_of_range line) (λ ns. Answer.done (ns, p.1)))

-- a line of signed amounts
abbrev pub amounts_at : List ℕ → ℕ → ℕ → ℕ → List ℕ → Answer (List ℤ × List ℕ)
amounts_at key count most line s =
    or_else (line_at key true count s) (off_layout line) (λ p. cond (list_all (amount_in most) p.0) (Answer.done p) (out_of_range line))

-- a line of thousandths that add up to 1,000
abbrev pub weights_at : List ℕ → ℕ → ℕ → List ℕ → Answer (List ℕ × List ℕ)
weights_at key count line s =
    next (naturals_at key count 0 1000 line s) (λ p. cond (sum p.0 == 1000) (Answer.done p) (off_balance line))
