-- A number by how it is written: at most eleven decimal digits, up to a byte that is none.
use Rattle.std.specs.Prelude.{◌≡◌, ℕ, ◌≤◌, false, List, ◌++◌, Some, decimal, slice_index}
use Rattle.month_text.specs.Numbers.{is_digit, number_at}
use Rattle.month_text.specs.declared.month.TheConstants.{MOST_NUMBER}

-- s is the number n, and then t
abbrev pub Spelled : List ℕ → ℕ → List ℕ → Type 0
Spelled s n t = (s ≡ decimal n ++ t) × (n ≤ MOST_NUMBER) × (is_digit (slice_index t 0) ≡ false)

-- exactly what is spelled is read
abbrev pub ReadAsSpelled : List ℕ → Type 0
ReadAsSpelled s =
    (n : ℕ) (t : List ℕ) → (number_at s ≡ Some (n, t) → Spelled s n t) × (Spelled s n t → number_at s ≡ Some (n, t))
