-- A statement filled component by component.
use Rattle.std.proofs.Common.{◌≡◌, ℕ, zero, suc, ◌+◌, ◌*◌, ◌<◌, List, [], ◌∷◌, ◌++◌, length, get_or, take, drop, set, ℤ, pos, sym, refl, ap, ◌∙◌, arith}
use borrow.Rule.Slice.PartMut.{put_mid}
use Rattle.std.proofs.lemmas.List.{length-append, length-map, take_more_set, take_at, drop_at, drop-drop, append_assoc}
use Rattle.statement.specs.declared.charge.ComponentCharge.{ComponentCharge}
use Rattle.statement.specs.Columns.{kind_of, column}
use Rattle.sharing.specs.Shares.{Shares}
use Rattle.statement.specs.Charges.{charge, charged, component_charges, cells}

module _ (shares : Shares) (long : (p : ℤ) (us : List ℕ) → length (shares p us) ≡ length us) (pools : List ℤ) (rows : List (List ℕ)) where
  pub charge_length : (c : ℕ) → length (charge shares pools rows c) ≡ length rows
  charge_length c = long (get_or pools c (pos 0)) (column rows (kind_of c)) ∙ length-map rows (λ row. get_or row (kind_of c) 0)

  pub cells_length : (n : ℕ) → length (cells shares pools rows n) ≡ n * length rows
  unfolding cells
  cells_length zero = omega arith
  cells_length (suc n) =
      let i = cells_length n in
      omega (arith, length-append (cells shares pools rows n) (charge shares pools rows n), i, charge_length n)

  pub cells_more : (c k : ℕ) (entry memory row : List ℤ) → k ≡ length rows → memory ≡ cells shares pools rows c ++ drop (c * length rows) entry → row ≡ charge shares pools rows c
      → put_mid (c * length rows) k memory row ≡ cells shares pools rows (c + 1) ++ drop ((c + 1) * length rows) entry
  unfolding cells
  cells_more c k entry memory row ek em er =
      let done = cells shares pools rows c in
      let left = drop (c * length rows) entry in
      let t : take (c * length rows) memory ≡ done = ap (take (c * length rows)) em ∙ take_at done left (c * length rows) (cells_length c) in
      let d : drop (c * length rows) memory ≡ left = ap (drop (c * length rows)) em ∙ drop_at done left (c * length rows) (cells_length c) in
      let f : drop k left ≡ drop ((c + 1) * length rows) entry = drop-drop k (c * length rows) entry ∙ ap (λ (n : ℕ). drop n entry) {x = c * length rows + k} {y = (c + 1) * length rows} (omega (arith, ek)) in
      let p : cells shares pools rows (c + 1) ≡ done ++ charge shares pools rows c = ap (cells shares pools rows) {x = c + 1} {y = suc c} (omega arith) in
      rw (t, d, f, p, er) (sym (append_assoc done (charge shares pools rows c) (drop ((c + 1) * length rows) entry)))

  pub component_charges_more : (c : ℕ) (charges : List ComponentCharge) (x : ComponentCharge) → c < length charges → take c charges ≡ component_charges shares pools rows c → x ≡ charged shares pools rows c
      → take (c + 1) (set charges c x) ≡ component_charges shares pools rows (c + 1)
  unfolding component_charges
  component_charges_more c charges x l h e =
      let p : component_charges shares pools rows (c + 1) ≡ component_charges shares pools rows c ++ (charged shares pools rows c ∷ []) = ap (component_charges shares pools rows) {x = c + 1} {y = suc c} (omega arith) in
      take_more_set charges c x l ∙ rw (h, e) (sym p)

  pub component_charges_none : [] ≡ component_charges shares pools rows 0
  unfolding component_charges
  component_charges_none = refl

  pub cells_none : (entry : List ℤ) → entry ≡ cells shares pools rows 0 ++ drop (0 * length rows) entry
  unfolding cells
  cells_none entry = ap (λ (n : ℕ). drop n entry) {x = 0} {y = 0 * length rows} (omega arith)
