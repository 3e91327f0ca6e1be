-- A book by its members' rows.
use Rattle.std.proofs.Common.{◌≡◌, ℕ, zero, suc, ◌+◌, ◌<◌, List, [], ◌∷◌, get_or, refl, ap, ◌∙◌, arith}
use Rattle.bottom_books.specs.Tables.{cell}
use Rattle.statement.specs.Readings.{book_row, book_rows}
use Rattle.statement.specs.Columns.{kind_of, column}
use Rattle.ledger.specs.Readings.{Reading, rows_read, units_read}
use Rattle.journal_run.specs.Meanings.{by_rows}

-- rows that are read alike are alike
same_rows : (f h : ℕ → ℕ → ℕ) (i j n : ℕ) → ((k : ℕ) → k < n → book_row f (i + k) ≡ book_row h (j + k)) → book_rows f i n ≡ book_rows h j n
same_rows f h i j zero e = refl
same_rows f h i j (suc n) e =
    let here : book_row f i ≡ book_row h j = (let a : i ≡ i + 0 = omega arith in ap (book_row f) a) ∙ e 0 (omega arith) ∙ (let a : j + 0 ≡ j = omega arith in ap (book_row h) a) in
    let more = same_rows f h (i + 1) (j + 1) n (λ k l. (let a : i + 1 + k ≡ i + (k + 1) = omega arith in ap (book_row f) a) ∙ e (k + 1) (omega arith) ∙ (let a : j + (k + 1) ≡ j + 1 + k = omega arith in ap (book_row h) a)) in
    rw (here, more) refl

row_at : (units : ℕ → ℕ → ℕ) (i n k : ℕ) → k < n → get_or (book_rows units i n) k [] ≡ book_row units (i + k)
row_at units i zero k l = absurd (omega arith)
row_at units i (suc n) zero l = let a : i ≡ i + 0 = omega arith in ap (book_row units) a
row_at units i (suc n) (suc k) l = row_at units (i + 1) n k (omega arith) ∙ (let a : i + 1 + k ≡ i + suc k = omega arith in ap (book_row units) a)

-- a row of seven, place by place
seven : List ℕ → List ℕ
seven row = get_or row 0 0 ∷ get_or row 1 0 ∷ get_or row 2 0 ∷ get_or row 3 0 ∷ get_or row 4 0 ∷ get_or row 5 0 ∷ get_or row 6 0 ∷ []

-- rows read as cells are the rows
pub rows_again : (units : ℕ → ℕ → ℕ) (n : ℕ) → book_rows (cell (book_rows units 0 n)) 0 n ≡ book_rows units 0 n
unfolding seven
rows_again units n =
    same_rows (cell (book_rows units 0 n)) units 0 0 n (λ k l.
    let a : 0 + k ≡ k = omega arith in
    ap (λ (j : ℕ). seven (get_or (book_rows units 0 n) j [])) a ∙ ap seven (row_at units 0 n k l))

pub rows_same : (b : Reading) → rows_read (by_rows b) ≡ rows_read b
rows_same b = rows_again b.units b.count

pub units_same : (b : Reading) (c : ℕ) → units_read (by_rows b) c ≡ units_read b c
units_same b c = ap (λ (rows : List (List ℕ)). column rows (kind_of c)) (rows_same b)
