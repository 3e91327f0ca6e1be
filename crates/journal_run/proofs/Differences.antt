-- The lines of a resettlement, one after the other.
use Rattle.std.proofs.Common.{◌≡◌, ℕ, zero, suc, ◌+◌, ◌<◌, ◌≤◌, List, [], ◌∷◌, ◌++◌, length, get_or, take, ℤ, min, append_assoc, append-nil, sym, refl, ap, ◌∙◌, arith}
use Rattle.month_text.specs.declared.month.Member.{Member}
use Rattle.journal_run.specs.Printed.{difference_line, difference_lines}

-- a line more
pub lines_more : (ms : List Member) (zs : List ℤ) (n : ℕ) (m : Member) (z : ℤ) → n < length ms → n < length zs
    → difference_lines (take n ms) (take n zs) ++ difference_line (get_or ms n m) (get_or zs n z) ≡ difference_lines (take (n + 1) ms) (take (n + 1) zs)
lines_more [] zs n m z h k = absurd (omega arith)
lines_more (x ∷ ms) [] n m z h k = absurd (omega arith)
lines_more (x ∷ ms) (y ∷ zs) zero m z h k = sym (append-nil (difference_line x y))
lines_more (x ∷ ms) (y ∷ zs) (suc n) m z h k =
    let e : suc n + 1 ≡ suc (n + 1) = omega arith in
    rw e (append_assoc (difference_line x y) (difference_lines (take n ms) (take n zs)) _ ∙ ap (λ (t : List ℕ). difference_line x y ++ t) (lines_more ms zs n m z (omega arith) (omega arith)))

-- the last one stands where members or cells end
pub lines_all : (ms : List Member) (zs : List ℤ) (n : ℕ) → n ≡ min (length ms) (length zs) → difference_lines (take n ms) (take n zs) ≡ difference_lines ms zs
lines_all [] zs zero e = refl
lines_all [] zs (suc n) e = absurd (omega arith)
lines_all (x ∷ ms) [] zero e = refl
lines_all (x ∷ ms) [] (suc n) e = absurd (omega arith)
lines_all (x ∷ ms) (y ∷ zs) zero e = absurd (omega arith)
lines_all (x ∷ ms) (y ∷ zs) (suc n) e = ap (λ (t : List ℕ). difference_line x y ++ t) (lines_all ms zs n (omega arith))

-- cells behind those of the members are not printed
pub lines_front : (ms : List Member) (zs rest : List ℤ) → length ms ≤ length zs → difference_lines ms (zs ++ rest) ≡ difference_lines ms zs
lines_front [] zs rest h = refl
lines_front (m ∷ ms) [] rest h = absurd (omega arith)
lines_front (m ∷ ms) (z ∷ zs) rest h = ap (λ (t : List ℕ). difference_line m z ++ t) (lines_front ms zs rest (omega arith))
