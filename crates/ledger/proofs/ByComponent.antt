-- Lines of units and cents, row by row.
use Rattle.std.proofs.Common.{◌≡◌, ℕ, zero, suc, ◌+◌, ◌*◌, ◌<◌, ◌≤◌, List, [], ◌∷◌, ◌++◌, length, get_or, take, drop, set, ℤ, pos, sym, refl, ap, ◌∙◌, mul-le-mul_right, arith}
use borrow.Rule.Slice.PartMut.{put_mid}
use lib.ListN.{get_or-map}
use Rattle.std.proofs.lemmas.List.{length-map, length-append, length-take-le, take_at, drop_at, drop-drop, append_assoc}
use Rattle.std.proofs.Math.Seq.{take-add}
use Rattle.statement.specs.Columns.{kind_of, column}
use Rattle.ledger.specs.declared.line.Line.{Line}
use Rattle.ledger.specs.Files.{no_line, lines_of, units_by_component}
use Rattle.ledger.proofs.Overwritten.{front_more, front_end}

pub lines_length : (us : List ℕ) (zs : List ℤ) → length us ≡ length zs → length (lines_of us zs) ≡ length us
lines_length [] zs e = refl
lines_length (u ∷ us) [] e = absurd (omega arith)
lines_length (u ∷ us) (z ∷ zs) e = ap suc (lines_length us zs (omega arith))

pub lines_at_lem : (us : List ℕ) (zs : List ℤ) (i : ℕ) → length us ≡ length zs → get_or (lines_of us zs) i no_line ≡ record { units = get_or us i 0; cents = get_or zs i (pos 0) }
lines_at_lem [] [] i e = refl
lines_at_lem [] (z ∷ zs) i e = absurd (omega arith)
lines_at_lem (u ∷ us) [] i e = absurd (omega arith)
lines_at_lem (u ∷ us) (z ∷ zs) zero e = refl
lines_at_lem (u ∷ us) (z ∷ zs) (suc i) e = lines_at_lem us zs i (omega arith)

lines_append : (us vs : List ℕ) (xs ys : List ℤ) → length us ≡ length xs → lines_of (us ++ vs) (xs ++ ys) ≡ lines_of us xs ++ lines_of vs ys
lines_append [] vs [] ys e = refl
lines_append [] vs (x ∷ xs) ys e = absurd (omega arith)
lines_append (u ∷ us) vs [] ys e = absurd (omega arith)
lines_append (u ∷ us) vs (x ∷ xs) ys e = ap (λ (ls : List Line). record { units = u; cents = x } ∷ ls) (lines_append us vs xs ys (omega arith))

pub column_length : (rows : List (List ℕ)) (k : ℕ) → length (column rows k) ≡ length rows
column_length rows k = length-map rows (λ (row : List ℕ). get_or row k 0)

pub by_component_length : (rows : List (List ℕ)) (c : ℕ) → length (units_by_component rows c) ≡ c * length rows
unfolding units_by_component
by_component_length rows zero = omega arith
by_component_length rows (suc c) = omega (arith, length-append (units_by_component rows c) (column rows (kind_of c)), by_component_length rows c, column_length rows (kind_of c))

pub row_end : (c n : ℕ) → c < 13 → c * n + n ≤ 13 * n
row_end c n h = omega (arith, mul-le-mul_right n h)

-- the rows of the first c components
abbrev pub slot_rows : List (List ℕ) → List ℤ → ℕ → List Line
slot_rows rows cells c = lines_of (units_by_component rows c) (take (c * length rows) cells)

module _ (rows : List (List ℕ)) (cells : List ℤ) (long : length cells ≡ 13 * length rows) where
  rows_long : (c : ℕ) → c ≤ 13 → length (units_by_component rows c) ≡ length (take (c * length rows) cells)
  rows_long c l =
      let a = mul-le-mul_right (length rows) l in
      omega (arith, by_component_length rows c, length-take-le (c * length rows) cells (omega (arith, long, a)))

  pub slot_length : (c : ℕ) → c ≤ 13 → length (slot_rows rows cells c) ≡ c * length rows
  slot_length c l = lines_length (units_by_component rows c) (take (c * length rows) cells) (rows_long c l) ∙ by_component_length rows c

  -- one row more
  pub slot_more : (c k : ℕ) (entry slot row : List Line) → c < 13 → k ≡ length rows → slot ≡ slot_rows rows cells c ++ drop (c * length rows) entry
      → row ≡ lines_of (column rows (kind_of c)) (take k (drop (c * length rows) cells))
      → put_mid (c * length rows) k slot row ≡ slot_rows rows cells (c + 1) ++ drop ((c + 1) * length rows) entry
  unfolding units_by_component
  slot_more c k entry slot row l ek es er =
      let n = length rows in
      let done = slot_rows rows cells c in
      let left = drop (c * n) entry in
      let t : take (c * n) slot ≡ done = ap (take (c * n)) es ∙ take_at done left (c * n) (slot_length c (omega arith)) in
      let d : drop (c * n) slot ≡ left = ap (drop (c * n)) es ∙ drop_at done left (c * n) (slot_length c (omega arith)) in
      let f : drop k left ≡ drop ((c + 1) * n) entry = drop-drop k (c * n) entry ∙ ap (λ (i : ℕ). drop i entry) {x = c * n + k} {y = (c + 1) * n} (omega (arith, ek)) in
      let u : units_by_component rows (c + 1) ≡ units_by_component rows c ++ column rows (kind_of c) = ap (units_by_component rows) {x = c + 1} {y = suc c} (omega arith) in
      let z : take ((c + 1) * n) cells ≡ take (c * n) cells ++ take k (drop (c * n) cells) = ap (λ (i : ℕ). take i cells) {x = (c + 1) * n} {y = c * n + k} (omega (arith, ek)) ∙ take-add (c * n) k cells in
      let p : slot_rows rows cells (c + 1) ≡ done ++ row = rw (u, z, er) (lines_append (units_by_component rows c) (column rows (kind_of c)) (take (c * n) cells) (take k (drop (c * n) cells)) (rows_long c (omega arith))) in
      rw (t, d, f, p) (sym (append_assoc done row (drop ((c + 1) * n) entry)))

  pub slot_none : (entry : List Line) → entry ≡ slot_rows rows cells 0 ++ drop (0 * length rows) entry
  unfolding units_by_component
  slot_none entry = ap (λ (n : ℕ). drop n entry) {x = 0} {y = 0 * length rows} (omega arith)

-- one line more
pub line_more : (us : List ℕ) (zs : List ℤ) (out : List Line) (i u : ℕ) (z : ℤ) → length us ≡ length zs → i < length us → i < length out → u ≡ get_or us i 0 → z ≡ get_or zs i (pos 0)
    → take i out ≡ take i (lines_of us zs) → take (i + 1) (set out i (record { units = u; cents = z })) ≡ take (i + 1) (lines_of us zs)
line_more us zs out i u z e lu lo eu ez h =
    front_more no_line (lines_of us zs) out i (record { units = u; cents = z }) (omega (arith, lines_length us zs e)) lo (rw (eu, ez) (sym (lines_at_lem us zs i e))) h

pub lines_end : (us : List ℕ) (zs : List ℤ) (out : List Line) (i : ℕ) → length us ≡ length zs → length us ≤ i → length out ≤ i
    → take i out ≡ take i (lines_of us zs) → out ≡ lines_of us zs
lines_end us zs out i e lu lo h = front_end no_line (lines_of us zs) out i (omega (arith, lines_length us zs e)) lo h

pub column_at : (rows : List (List ℕ)) (k i : ℕ) → get_or (get_or rows i []) k 0 ≡ get_or (column rows k) i 0
column_at rows k i = sym (get_or-map (λ (row : List ℕ). get_or row k 0) rows i [])
