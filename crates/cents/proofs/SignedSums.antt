-- Sums of signed amounts.
use Rattle.std.proofs.Common.{◌≡◌, ℕ, ◌+◌, ◌<◌, List, [], ◌∷◌, ◌++◌, length, get_or, take, ℤ, pos, ◌+ℤ◌, ap, ◌∙◌, arith}
use borrow.Author.Differences.{ints}
use Rattle.std.proofs.lemmas.List.{take_more}
use Rattle.cents.specs.Cutting.{sum_z}

pub sum_append : (xs ys : List ℤ) → sum_z (xs ++ ys) ≡ sum_z xs +ℤ sum_z ys
sum_append [] ys = omega (arith, ints)
sum_append (x ∷ xs) ys = let i = sum_append xs ys in omega (arith, ints, i)

-- one amount more
pub sum_more : (zs : List ℤ) (i : ℕ) → i < length zs → sum_z (take (i + 1) zs) ≡ sum_z (take i zs) +ℤ get_or zs i (pos 0)
sum_more zs i l =
    let a = sum_append (take i zs) (get_or zs i (pos 0) ∷ []) in
    ap sum_z (take_more zs i (pos 0) l) ∙ omega (arith, ints, a)
