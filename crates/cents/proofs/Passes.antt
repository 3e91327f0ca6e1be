-- The steps of a loop that tests every element.
use Rattle.std.proofs.Common.{◌≡◌, ℕ, ◌+◌, ◌<◌, Bool, true, false, List, length, get_or, take, refl}
use Rattle.std.proofs.lemmas.Bool.{and_from}
use Rattle.std.proofs.lemmas.List.Folds.{list_all_more, list_all_at}
use Rattle.std.proofs.lemmas.List.Recursion.{and_at}
use Rattle.cents.specs.Passes.{all_pass}

module _ {X : Type 0} (p : X → Bool) where
  pub pass_more : (xs : List X) (i : ℕ) (d : X) → i < length xs → all_pass p (take i xs) ≡ true → p (get_or xs i d) ≡ true → all_pass p (take (i + 1) xs) ≡ true
  pass_more xs i d l h k = rw (list_all_more p xs i d l) (and_from (all_pass p (take i xs)) (p (get_or xs i d)) h k)

  pub pass_not : (xs : List X) (i : ℕ) (d : X) → i < length xs → p (get_or xs i d) ≡ false → all_pass p xs ≡ false
  pass_not xs i d l h = list_all_at p xs i d l h

  pub pass_at : (xs : List X) (i : ℕ) (d : X) → i < length xs → all_pass p xs ≡ true → p (get_or xs i d) ≡ true
  pass_at xs i d l h = and_at (all_pass p) p refl (λ _ _. refl) xs i d l h
