-- A list that is passed through a step: what is passed already, and what is left.
use Rattle.std.proofs.Common.{◌≡◌, ℕ, ◌≤◌, List, ◌++◌, length, drop, Some, None, Option, refl, append-nil}
use Rattle.std.proofs.lemmas.List.{drop_all}
use Rattle.month_text.specs.Ranges.{each}

abbrev pub before : {X : Type 0} → List X → Option (List X) → Option (List X)
before xs None = None
before xs (Some ys) = Some (xs ++ ys)

pub each_end : {X Y : Type 0} (f : X → Option Y) (xs : List X) (i : ℕ) (ys zs : List Y) → length xs ≤ i → ys ≡ zs → before ys (each f (drop i xs)) ≡ Some zs
each_end f xs i ys zs h e = rw (drop_all i xs h, e) (rw append-nil refl)
