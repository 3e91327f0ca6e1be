-- One cell of a table set.
use Rattle.std.proofs.Common.{◌≡◌, ℕ, ◌-◌, ◌<◌, ◌≤◌, cond, List, [], length, get_or, set, arith}
use Rattle.std.proofs.lemmas.Grind.{common_steps}
use Rattle.book.specs.Correcting.{same_pair}
use Rattle.bottom_books.specs.Tables.{cell}

-- one pair's units are set, the others' stay
pub set_cell : (rows : List (List ℕ)) (kind member units : ℕ) → member < length rows → kind - 1 < length (get_or rows member []) → 1 ≤ kind
    → (k m : ℕ) → 1 ≤ k → cell (set rows member (set (get_or rows member []) (kind - 1) units)) k m ≡ cond (same_pair (k, m) (kind, member)) units (cell rows k m)
set_cell rows kind member units l w low k m h = grind (arith, common_steps)
