-- Rows of one length, end to end.
use Rattle.std.proofs.Common.{◌≡◌, ℕ, zero, suc, ◌+◌, ◌*◌, ◌<◌, ◌≤◌, List, [], ◌++◌, length, get_or, take, drop, ℤ, sym, refl, ap, ◌∙◌, ⊎_elim, mul-le-mul_right, arith}
use Rattle.std.proofs.lemmas.List.{length-append, length-drop, take_all, take-append-le, drop-append-le, drop_at, get_or-take, get_or-drop}
use Rattle.std.proofs.lemmas.Bool.{cases_eq}
use Rattle.statement.specs.Columns.{kind_of, column}
use Rattle.sharing.specs.Shares.{Shares}
use Rattle.statement.specs.Charges.{charge, cells}
use Rattle.ledger.specs.Files.{units_by_component}

abbrev pub joined : {X : Type 0} → (ℕ → List X) → ℕ → List X
joined f zero = []
joined f (suc n) = joined f n ++ f n

module _ {X : Type 0} (f : ℕ → List X) (n : ℕ) (long : (c : ℕ) → length (f c) ≡ n) where
  pub joined_long : (k : ℕ) → length (joined f k) ≡ k * n
  joined_long zero = omega arith
  joined_long (suc k) = omega (arith, length-append (joined f k) (f k), joined_long k, long k)

  pub joined_row : (k c : ℕ) → c < k → take n (drop (c * n) (joined f k)) ≡ f c
  joined_row zero c l = absurd (omega arith)
  joined_row (suc k) c l =
      ⊎_elim
      (λ (e : c ≡ k). rw e (ap (take n) (drop_at (joined f k) (f k) (k * n) (joined_long k)) ∙ take_all n (f k) (omega (arith, long k))))
      (λ (ne : c ≡ k → ⊥).
      let i : c + 1 ≤ k = omega arith in
      let m = mul-le-mul_right n i in
      ap (take n) (drop-append-le (c * n) (joined f k) (f k) (omega (arith, joined_long k, m)))
      ∙ take-append-le n (drop (c * n) (joined f k)) (f k) (omega (arith, length-drop (c * n) (joined f k), joined_long k, m))
      ∙ joined_row k c (omega arith))
      (cases_eq c k)

  pub joined_at : (d : X) (k c m : ℕ) → c < k → m < n → get_or (joined f k) (c * n + m) d ≡ get_or (f c) m d
  joined_at d k c m l i =
      sym (get_or-drop (c * n) (joined f k) m d) ∙ sym (get_or-take n (drop (c * n) (joined f k)) m d i) ∙ ap (λ (xs : List X). get_or xs m d) (joined_row k c l)

pub units_by_component_is : (rows : List (List ℕ)) (k : ℕ) → units_by_component rows k ≡ joined (λ c. column rows (kind_of c)) k
unfolding units_by_component
units_by_component_is rows zero = refl
units_by_component_is rows (suc k) = ap (λ (us : List ℕ). us ++ column rows (kind_of k)) (units_by_component_is rows k)

pub cells_joined : (shares : Shares) (pools : List ℤ) (rows : List (List ℕ)) (k : ℕ) → cells shares pools rows k ≡ joined (charge shares pools rows) k
unfolding cells
cells_joined shares pools rows zero = refl
cells_joined shares pools rows (suc k) = ap (λ (zs : List ℤ). zs ++ charge shares pools rows k) (cells_joined shares pools rows k)
