-- A list by its places.
use Rattle.std.proofs.Common.{◌≡◌, ℕ, List, length, get_or, map, refl}
use Rattle.std.specs.List.{range_with_len}
use Rattle.std.proofs.lemmas.List.FromFn.{fill_by_all}

abbrev pub tabulate : {X : Type 0} → ℕ → (ℕ → X) → List X
tabulate n f = map f (range_with_len 0 n)

pub tabulated : {X : Type 0} (d : X) (n : ℕ) (xs : List X) → length xs ≡ n → xs ≡ tabulate n (λ i. get_or xs i d)
tabulated d n xs e = fill_by_all (λ i. get_or xs i d) xs n d e (λ k l. refl)
