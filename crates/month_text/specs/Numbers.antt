-- A decimal number at the front of a text, and what stands after it.
use Rattle.std.specs.Prelude.{ℕ, zero, suc, ◌+◌, ◌-◌, ◌*◌, Bool, cond, ◌&&◌, List, [], ◌∷◌, ℤ, pos, negsuc, Some, None, Option, ◌==◌, nat_le, nat_lt}
use Rattle.month_text.specs.declared.month.TheConstants.{MOST_NUMBER}

-- the second step, where the first found something
abbrev pub bind : {X Y : Type 0} → Option X → (X → Option Y) → Option Y
bind None k = None
bind (Some x) k = k x

abbrev pub is_digit : ℕ → Bool
is_digit c = nat_le 48 c && nat_le c 57

-- more digits after the number n: none after a leading zero, and none after the eleventh
abbrev pub digits_on : ℕ → List ℕ → Option (ℕ × List ℕ)
digits_on n [] = Some (n, [])
digits_on n (c ∷ cs) =
    cond (is_digit c) (cond (nat_lt 0 n && nat_le (n * 10) MOST_NUMBER) (digits_on (n * 10 + (c - 48)) cs) None) (Some (n, c ∷ cs))

abbrev pub number_at : List ℕ → Option (ℕ × List ℕ)
number_at [] = None
number_at (c ∷ cs) = cond (is_digit c) (digits_on (c - 48) cs) None

-- `-` precedes only a number that is not zero
abbrev pub minus : ℕ → Option ℤ
minus zero = None
minus (suc n) = Some (negsuc n)

-- a number, with a sign before it where signs are allowed
abbrev pub integer_at : Bool → List ℕ → Option (ℤ × List ℕ)
integer_at signs [] = None
integer_at signs (c ∷ cs) =
    cond (signs && c == 45)
    (bind (number_at cs) (λ p. bind (minus p.0) (λ z. Some (z, p.1))))
    (bind (number_at (c ∷ cs)) (λ p. Some (pos p.0, p.1)))
