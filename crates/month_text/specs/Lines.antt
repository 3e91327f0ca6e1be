-- A line: its key, `=`, numbers between commas, and byte 10.
use Rattle.std.specs.Prelude.{ℕ, zero, suc, Bool, cond, List, [], ◌∷◌, ℤ, Some, None, Option, ◌==◌}
use Rattle.month_text.specs.Numbers.{bind, integer_at}

-- what stands after a given front
abbrev pub past : List ℕ → List ℕ → Option (List ℕ)
past [] s = Some s
past (k ∷ ks) [] = None
past (k ∷ ks) (c ∷ cs) = cond (c == k) (past ks cs) None

-- byte 10 stands after the last number, and a comma after each other
abbrev pub stop : ℕ → ℕ
stop left = cond (left == 0) 10 44

-- so many numbers, each with the byte that ends it
abbrev pub fields_at : Bool → ℕ → List ℕ → Option (List ℤ × List ℕ)
fields_at signs zero s = Some ([], s)
fields_at signs (suc left) s =
    bind (integer_at signs s) (λ p.
    bind (past (stop left ∷ []) p.1) (λ t.
    bind (fields_at signs left t) (λ q. Some (p.0 ∷ q.0, q.1))))

abbrev pub line_at : List ℕ → Bool → ℕ → List ℕ → Option (List ℤ × List ℕ)
line_at key signs count s =
    bind (past key s) (λ t. bind (past (61 ∷ []) t) (λ u. fields_at signs count u))
